-- Places in the order of what a conjunction says of each of them alone.
use Rattle.std.specs.Prelude.{◌≡◌, ℕ, Bool, ◌&&◌, ◌==◌, List, [], ◌∷◌, ◌++◌, length, map, Option, Some, None, AllPairs}
use Rattle.std.specs.List.{list_all, list_any, filter, position_or_len, range_with_len}
use Rattle.std.specs.Cmp.Lexicographic.{slice_cmp}
use Rattle.std.specs.Ordering.{nat_cmp, ordering_then}
use Rattle.std.specs.declared.cmp.Ordering.{Ordering}
use Rattle.std.specs.declared.cmp.Ordering.TheVariants.{Less}
use Rattle.cub_proto.specs.declared.literal.Term.{Term}
use Rattle.cub_proto.specs.declared.literal.PSide.{PSide}
use Rattle.cub_proto.specs.declared.literal.ISide.{ISide}
use Rattle.cub_proto.specs.declared.literal.ISide.TheVariants.{Zero, At}
use Rattle.cub_proto.specs.declared.literal.Lit.{Lit}
use Rattle.cub_proto.specs.declared.literal.Lit.TheVariants.{FinIn, FinEq, FinNe, ProcEq, ProcNe, Diff}
use Rattle.cub_proto.specs.declared.protocol.Protocol.{Protocol}
use Rattle.cub_proto.specs.Order.{lit_cmp}
use Rattle.cub_proto.specs.StateOf.{signature_of}
use Rattle.cub_cube.specs.declared.cube.Cube.{Cube}
use Rattle.cub_cube.specs.Normal.{normal_form}
use Rattle.cub_cube.specs.Rename.{renamed_all, IsInjection}

abbrev pub term_places : Term → List ℕ
term_places (Term.Global g) = []
term_places (Term.Cell a p) = p ∷ []

abbrev pub process_side_places : PSide → List ℕ
process_side_places (PSide.Global g) = []
process_side_places (PSide.Place p) = p ∷ []

abbrev pub integer_side_places : ISide → List ℕ
integer_side_places Zero = []
integer_side_places (At t) = term_places t

-- the places that a literal mentions, from left to right
abbrev pub places_of : Lit → List ℕ
places_of (FinIn t mask) = term_places t
places_of (FinEq a b) = term_places a ++ term_places b
places_of (FinNe a b) = term_places a ++ term_places b
places_of (ProcEq a b) = process_side_places a ++ process_side_places b
places_of (ProcNe a b) = process_side_places a ++ process_side_places b
places_of (Diff a b bound) = integer_side_places a ++ integer_side_places b

-- one place or none, as a list
abbrev pub listed : Option ℕ → List ℕ
listed None = []
listed (Some p) = p ∷ []

-- the literal mentions the place, and no other one
abbrev pub is_own : ℕ → Lit → Bool
is_own p l = list_any (λ q. q == p) (places_of l) && list_all (λ q. q == p) (places_of l)

abbrev pub term_at_zero : Term → Term
term_at_zero (Term.Global g) = Term.Global g
term_at_zero (Term.Cell a p) = Term.Cell a 0

abbrev pub process_side_at_zero : PSide → PSide
process_side_at_zero (PSide.Global g) = PSide.Global g
process_side_at_zero (PSide.Place p) = PSide.Place 0

abbrev pub integer_side_at_zero : ISide → ISide
integer_side_at_zero Zero = Zero
integer_side_at_zero (At t) = At (term_at_zero t)

-- the literal written for place 0
abbrev pub at_zero : Lit → Lit
at_zero (FinIn t mask) = FinIn (term_at_zero t) mask
at_zero (FinEq a b) = FinEq (term_at_zero a) (term_at_zero b)
at_zero (FinNe a b) = FinNe (term_at_zero a) (term_at_zero b)
at_zero (ProcEq a b) = ProcEq (process_side_at_zero a) (process_side_at_zero b)
at_zero (ProcNe a b) = ProcNe (process_side_at_zero a) (process_side_at_zero b)
at_zero (Diff a b bound) = Diff (integer_side_at_zero a) (integer_side_at_zero b) bound

-- what is said of the place alone: the literals that mention it and no other one, in order, written for place 0
abbrev pub own_lits : List Lit → ℕ → List Lit
own_lits lits p = map at_zero (filter (is_own p) lits)

-- Places go by what is said of each alone, literal by literal, a list before those that it begins; then by number.
abbrev pub place_cmp : List Lit → ℕ → ℕ → Ordering
place_cmp lits p q = ordering_then (slice_cmp lit_cmp (own_lits lits p) (own_lits lits q)) (nat_cmp p q)

-- all places below the width, rising in this order: item p is the place that comes to stand at p
pub record AreInOrder (lits : List Lit) (width : ℕ) (places : List ℕ) : Type 0 where
  pub each : IsInjection width width places
  pub rise : AllPairs (λ p q. place_cmp lits p q ≡ Less) places

-- the number at which a place stands in a list; the length where it doesn't
abbrev pub number_in : List ℕ → ℕ → ℕ
number_in places q = position_or_len (λ p. p == q) places

-- the renaming back: item q is the number at which place q stands
abbrev pub turned : List ℕ → List ℕ
turned places = map (number_in places) (range_with_len 0 (length places))

-- the cube with its places in order: place p of it is item p of the places
pub record IsNamed (p : Protocol) (c : Cube) (places : List ℕ) (named : Cube) : Type 0 where
  pub order : AreInOrder c.lits c.width places
  pub width : named.width ≡ c.width
  pub lits : named.lits ≡ normal_form (signature_of p) (renamed_all (turned places) c.lits)
