-- Equalities and disequalities of finite terms over a table of masks, terms by their numbers.
use Rattle.std.specs.Prelude.{◌≡◌, ℕ, ◌<◌, ◌≤◌, ◌^◌, Bool, true, false, not, ◌==◌, ◌&&◌, ◌||◌, nat_lt, nat_le, bit_and, List, length, slice_index, IsTrue}
use Rattle.std.specs.List.{list_all}
use Rattle.cub_proto.specs.declared.literal.Term.{Term}
use Rattle.cub_proto.specs.declared.literal.Lit.{Lit}
use Rattle.cub_proto.specs.declared.literal.Lit.TheVariants.{FinIn, FinEq, FinNe, ProcEq, ProcNe, Diff}
use Rattle.cub_proto.specs.Truth.{has_bit}
use Rattle.fin_dom.specs.Table.{number_of, low_at}

-- masks of 64 bits, none of them empty
abbrev pub AreMasks : List ℕ → Type 0
AreMasks masks = (n : ℕ) → n < length masks → (0 < slice_index masks n) × (slice_index masks n < 2 ^ 64)

-- the terms of an equality or disequality have entries
abbrev pub link_fits : ℕ → Lit → Bool
link_fits terms (FinIn t mask) = true
link_fits terms (FinEq a b) = nat_lt (number_of a) terms && nat_lt (number_of b) terms
link_fits terms (FinNe a b) = nat_lt (number_of a) terms && nat_lt (number_of b) terms
link_fits terms (ProcEq a b) = true
link_fits terms (ProcNe a b) = true
link_fits terms (Diff a b bound) = true

-- the equality or disequality is true of the constructors, by number
abbrev pub is_link_true : (ℕ → ℕ) → Lit → Bool
is_link_true w (FinIn t mask) = true
is_link_true w (FinEq a b) = w (number_of a) == w (number_of b)
is_link_true w (FinNe a b) = not (w (number_of a) == w (number_of b))
is_link_true w (ProcEq a b) = true
is_link_true w (ProcNe a b) = true
is_link_true w (Diff a b bound) = true

-- the constructors are left
abbrev pub IsWithin : List ℕ → (ℕ → ℕ) → Type 0
IsWithin masks w = (n : ℕ) → n < length masks → IsTrue (has_bit (slice_index masks n) (w n))

-- and make the links true
pub record Fills (lits : List Lit) (masks : List ℕ) (w : ℕ → ℕ) : Type 0 where
  pub within : IsWithin masks w
  pub links : IsTrue (list_all (is_link_true w) lits)

-- v is before w in the order of numbers below the count
pub record IsNumberBefore (count : ℕ) (v w : ℕ → ℕ) : Type 0 where
  pub place : ℕ
  pub inside : place < count
  pub same : (k : ℕ) → k < place → v k ≡ w k
  pub less : v place < w place

-- one constructor is left
abbrev pub is_single : List ℕ → ℕ → Bool
is_single masks n = slice_index masks n == 2 ^ low_at masks n

-- whatever is left makes the link true
abbrev pub is_settled : List ℕ → Lit → Bool
is_settled masks (FinIn t mask) = true
is_settled masks (FinEq a b) =
    number_of a == number_of b || (slice_index masks (number_of a) == slice_index masks (number_of b) && is_single masks (number_of a))
is_settled masks (FinNe a b) = bit_and (slice_index masks (number_of a)) (slice_index masks (number_of b)) == 0
is_settled masks (ProcEq a b) = true
is_settled masks (ProcNe a b) = true
is_settled masks (Diff a b bound) = true

-- if `a` is the number i, constructor c for it leaves an equal one to `b`
abbrev pub agrees_equal : List ℕ → ℕ → ℕ → ℕ → ℕ → Bool
agrees_equal masks i c a b = not (a == i) || (b == i || has_bit (slice_index masks b) c)

-- if `a` is the number i, constructor c for it leaves another one to `b`
abbrev pub agrees_other : List ℕ → ℕ → ℕ → ℕ → ℕ → Bool
agrees_other masks i c a b = not (a == i) || (not (b == i) && not (slice_index masks b == 2 ^ c))

-- constructor c for the number i leaves one to the other side of the link
abbrev pub agrees : List ℕ → ℕ → ℕ → Lit → Bool
agrees masks i c (FinIn t mask) = true
agrees masks i c (FinEq a b) = agrees_equal masks i c (number_of a) (number_of b) && agrees_equal masks i c (number_of b) (number_of a)
agrees masks i c (FinNe a b) = agrees_other masks i c (number_of a) (number_of b) && agrees_other masks i c (number_of b) (number_of a)
agrees masks i c (ProcEq a b) = true
agrees masks i c (ProcNe a b) = true
agrees masks i c (Diff a b bound) = true

-- n is not from `from` up to below `at`
abbrev pub is_skipped : ℕ → ℕ → ℕ → Bool
is_skipped from at n = nat_lt n from || nat_le at n

-- the literal is settled, or its numbers are outside of that range
abbrev pub is_passed : List ℕ → ℕ → ℕ → Lit → Bool
is_passed masks from at (FinIn t mask) = true
is_passed masks from at (FinEq a b) = is_settled masks (FinEq a b) || (is_skipped from at (number_of a) && is_skipped from at (number_of b))
is_passed masks from at (FinNe a b) = is_settled masks (FinNe a b) || (is_skipped from at (number_of a) && is_skipped from at (number_of b))
is_passed masks from at (ProcEq a b) = true
is_passed masks from at (ProcNe a b) = true
is_passed masks from at (Diff a b bound) = true

-- a number below `from` has one constructor left
abbrev pub is_fixed : List ℕ → ℕ → ℕ → Bool
is_fixed masks from n = nat_le from n || is_single masks n

-- an open link between these numbers waits for one of them, from `from` on
abbrev pub waits : List ℕ → ℕ → ℕ → ℕ → Bool
waits masks from a b = (is_fixed masks from a && is_fixed masks from b) && (nat_le from a || nat_le from b)

-- the literal is settled or waits
abbrev pub is_decided : List ℕ → ℕ → Lit → Bool
is_decided masks from (FinIn t mask) = true
is_decided masks from (FinEq a b) = is_settled masks (FinEq a b) || waits masks from (number_of a) (number_of b)
is_decided masks from (FinNe a b) = is_settled masks (FinNe a b) || waits masks from (number_of a) (number_of b)
is_decided masks from (ProcEq a b) = true
is_decided masks from (ProcNe a b) = true
is_decided masks from (Diff a b bound) = true

-- fewer constructors are left, and none is lost that the links leave
pub record Narrows (lits : List Lit) (old new : List ℕ) : Type 0 where
  pub size : length new ≡ length old
  pub masks : AreMasks new
  pub fewer : (w : ℕ → ℕ) → IsWithin new w → IsWithin old w
  pub keeps : (w : ℕ → ℕ) → IsWithin old w → IsTrue (list_all (is_link_true w) lits) → IsWithin new w

-- no constructors that are left make the links true
abbrev pub IsRefuted : List Lit → List ℕ → Type 0
IsRefuted lits masks = (w : ℕ → ℕ) → IsWithin masks w → IsTrue (list_all (is_link_true w) lits) → ⊥

-- the masks have a least choice of constructors, which the new masks tell
pub record IsLeastFill (lits : List Lit) (old new : List ℕ) : Type 0 where
  pub fills : Fills lits old (low_at new)
  pub least : (w : ℕ → ℕ) → Fills lits old w → IsNumberBefore (length old) w (low_at new) → ⊥
