-- Renaming by places. Item p of a renaming is the place of the big thing for place p of the small one.
use Rattle.std.specs.Prelude.{◌≡◌, ◌≢◌, ℕ, ◌<◌, Bool, true, ◌&&◌, nat_lt, List, length, map, slice_index, All, AllPairs}
use Rattle.cub_proto.specs.declared.literal.Term.{Term}
use Rattle.cub_proto.specs.declared.literal.PSide.{PSide}
use Rattle.cub_proto.specs.declared.literal.ISide.{ISide}
use Rattle.cub_proto.specs.declared.literal.ISide.TheVariants.{Zero, At}
use Rattle.cub_proto.specs.declared.literal.Lit.{Lit}
use Rattle.cub_proto.specs.declared.literal.Lit.TheVariants.{FinIn, FinEq, FinNe, ProcEq, ProcNe, Diff}
use Rattle.cub_proto.specs.declared.literal.Value.{Value}
use Rattle.cub_proto.specs.Fits.{place_fits}

abbrev pub renamed_term : List ℕ → Term → Term
renamed_term r (Term.Global g) = Term.Global g
renamed_term r (Term.Cell a p) = Term.Cell a (slice_index r p)

abbrev pub renamed_process_side : List ℕ → PSide → PSide
renamed_process_side r (PSide.Global g) = PSide.Global g
renamed_process_side r (PSide.Place p) = PSide.Place (slice_index r p)

abbrev pub renamed_integer_side : List ℕ → ISide → ISide
renamed_integer_side r Zero = Zero
renamed_integer_side r (At t) = At (renamed_term r t)

-- the literal with each place p replaced by item p
abbrev pub renamed : List ℕ → Lit → Lit
renamed r (FinIn t mask) = FinIn (renamed_term r t) mask
renamed r (FinEq a b) = FinEq (renamed_term r a) (renamed_term r b)
renamed r (FinNe a b) = FinNe (renamed_term r a) (renamed_term r b)
renamed r (ProcEq a b) = ProcEq (renamed_process_side r a) (renamed_process_side r b)
renamed r (ProcNe a b) = ProcNe (renamed_process_side r a) (renamed_process_side r b)
renamed r (Diff a b bound) = Diff (renamed_integer_side r a) (renamed_integer_side r b) bound

abbrev pub renamed_value : List ℕ → Value → Value
renamed_value r (Value.Con c) = Value.Con c
renamed_value r (Value.Read t) = Value.Read (renamed_term r t)
renamed_value r (Value.Proc side) = Value.Proc (renamed_process_side r side)
renamed_value r (Value.Sum base add) = Value.Sum (renamed_integer_side r base) add
renamed_value r Value.Any = Value.Any

abbrev pub renamed_all : List ℕ → List Lit → List Lit
renamed_all r lits = map (renamed r) lits

-- the composed places: what is at the places of the big thing, for each place of the small one
abbrev pub along : List ℕ → List ℕ → List ℕ
along r places = map (λ p. slice_index places p) r

-- a place below `to` for each place below `from`, and no place twice
pub record IsInjection (from to : ℕ) (r : List ℕ) : Type 0 where
  pub one_each : length r ≡ from
  pub within : All (λ p. p < to) r
  pub apart : AllPairs (λ p q. p ≢ q) r

-- the literal's places are below the width
abbrev pub process_side_within : ℕ → PSide → Bool
process_side_within width (PSide.Global g) = true
process_side_within width (PSide.Place p) = nat_lt p width

abbrev pub integer_side_within : ℕ → ISide → Bool
integer_side_within width Zero = true
integer_side_within width (At t) = place_fits width t

abbrev pub is_within : ℕ → Lit → Bool
is_within width (FinIn t mask) = place_fits width t
is_within width (FinEq a b) = place_fits width a && place_fits width b
is_within width (FinNe a b) = place_fits width a && place_fits width b
is_within width (ProcEq a b) = process_side_within width a && process_side_within width b
is_within width (ProcNe a b) = process_side_within width a && process_side_within width b
is_within width (Diff a b bound) = integer_side_within width a && integer_side_within width b

abbrev pub value_within : ℕ → Value → Bool
value_within width (Value.Con c) = true
value_within width (Value.Read t) = place_fits width t
value_within width (Value.Proc side) = process_side_within width side
value_within width (Value.Sum base add) = integer_side_within width base
value_within width Value.Any = true

-- the same process at each place below the width
abbrev pub Agree : ℕ → List ℕ → List ℕ → Type 0
Agree width places others = (p : ℕ) → p < width → slice_index places p ≡ slice_index others p
