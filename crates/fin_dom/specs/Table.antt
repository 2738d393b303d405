-- What a scratch holds: for each number of a term the mask of the constructors that are left to it.
use Rattle.std.specs.Prelude.{◌≡◌, ℕ, ◌+◌, ◌*◌, ◌<◌, ◌^◌, Bool, true, ◌&&◌, nat_lt, List, length, slice_index, cond}
use Rattle.std.specs.Int.{trailing_zeros, w64}
use Rattle.cub_proto.specs.declared.literal.Term.{Term}
use Rattle.cub_proto.specs.declared.literal.Term.TheVariants.{Global, Cell}
use Rattle.cub_proto.specs.declared.literal.Lit.{Lit}
use Rattle.cub_proto.specs.declared.literal.Lit.TheVariants.{FinIn, FinEq, FinNe, ProcEq, ProcNe, Diff}
use Rattle.cub_proto.specs.Signature.{Signature, constructors_at}

-- the number of a term: globals first, then the cells of each array, 16 of each
abbrev pub number_of : Term → ℕ
number_of (Global g) = g
number_of (Cell a p) = 64 + 16 * a + p

-- a global below 64, or a cell at a place below 16: its number is its own
abbrev pub is_numbered : Term → Bool
is_numbered (Global g) = nat_lt g 64
is_numbered (Cell a p) = nat_lt p 16

-- a table of so many numbers has an entry for the term
abbrev pub has_entry : ℕ → Term → Bool
has_entry terms t = is_numbered t && nat_lt (number_of t) terms

-- the terms of a finite literal have entries, and its mask has no bit beyond the constructors of its term's sort
abbrev pub terms_fit : Signature → ℕ → Lit → Bool
terms_fit sig terms (FinIn t mask) = has_entry terms t && nat_lt mask (2 ^ constructors_at sig t)
terms_fit sig terms (FinEq a b) = has_entry terms a && has_entry terms b
terms_fit sig terms (FinNe a b) = has_entry terms a && has_entry terms b
terms_fit sig terms (ProcEq a b) = true
terms_fit sig terms (ProcNe a b) = true
terms_fit sig terms (Diff a b bound) = true

-- the lowest bit of an entry
abbrev pub low_at : List ℕ → ℕ → ℕ
low_at masks n = trailing_zeros w64 (slice_index masks n)

-- the least constructor that is left to a term; 0 without an entry
abbrev pub con_of : List ℕ → Term → ℕ
con_of masks t = cond (has_entry (length masks) t) (low_at masks (number_of t)) 0
