-- A conjunction together with the start formula: its literals joined with those of the start conjunction at each place.
use Rattle.std.specs.Prelude.{◌≡◌, ℕ, max, Bool, true, false, List, [], ◌∷◌, ◌++◌}
use Rattle.std.specs.List.{flat_map, range_with_len}
use Rattle.cub_proto.specs.declared.literal.Lit.{Lit}
use Rattle.cub_proto.specs.declared.protocol.Protocol.{Protocol}
use Rattle.cub_cube.specs.Rename.{renamed_all}
use Rattle.cub_cube.specs.Meaning.{IsConsistent}

-- the start formula has a conjunction
abbrev pub has_start : List (List Lit) → Bool
has_start [] = false
has_start (conj ∷ more) = true

-- the literals of a conjunction over place 0, at each of the places below the width
abbrev pub at_each_place : List Lit → ℕ → List Lit
at_each_place conj width = flat_map (λ q. renamed_all (q ∷ []) conj) (range_with_len 0 width)

-- the literals of the start conjunction, if there is one, at each of the places
abbrev pub start_of : List (List Lit) → ℕ → List Lit
start_of [] width = []
start_of (conj ∷ more) width = at_each_place conj width

abbrev pub start_at : Protocol → ℕ → List Lit
start_at p width = start_of p.start width

-- the places that a conjunction has together with the start literals: at least one
abbrev pub start_width : ℕ → ℕ
start_width width = max width 1

-- the literals of the conjunction and the start literals at its places
abbrev pub with_start_literals : Protocol → ℕ → List Lit → List Lit
with_start_literals p width lits = lits ++ start_at p (start_width width)

-- the start formula has a conjunction, and its literals at the places are consistent with those of the conjunction
pub record IsConsistentWithStart (p : Protocol) (width : ℕ) (lits : List Lit) : Type 0 where
  pub some : has_start p.start ≡ true
  pub consistent : IsConsistent p (start_width width) (with_start_literals p width lits)
