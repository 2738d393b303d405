-- Masks that hold what the literals say of each term alone.
use Rattle.std.specs.Prelude.{◌≡◌, ℕ, ◌<◌, ◌^◌, Bool, true, ◌&&◌, List, length, slice_index, IsTrue}
use Rattle.std.specs.List.{list_all}
use Rattle.cub_proto.specs.declared.literal.Term.{Term}
use Rattle.cub_proto.specs.declared.literal.Lit.{Lit}
use Rattle.cub_proto.specs.declared.literal.Lit.TheVariants.{FinIn, FinEq, FinNe, ProcEq, ProcNe, Diff}
use Rattle.cub_proto.specs.Signature.{Signature}
use Rattle.cub_proto.specs.Truth.{has_bit}
use Rattle.fin_dom.specs.Solution.{Solves, has_constructor, is_inside}
use Rattle.fin_dom.specs.Table.{number_of, has_entry}
use Rattle.fin_dom.specs.Links.{AreMasks}

-- the membership is true of the constructors; other literals are passed over
abbrev pub is_member_true : (Term → ℕ) → Lit → Bool
is_member_true v (FinIn t mask) = has_bit mask (v t)
is_member_true v (FinEq a b) = true
is_member_true v (FinNe a b) = true
is_member_true v (ProcEq a b) = true
is_member_true v (ProcNe a b) = true
is_member_true v (Diff a b bound) = true

-- the number i has left what it had and the mask has; the other numbers are as they were
pub record Meets (i mask : ℕ) (old new : List ℕ) : Type 0 where
  pub size : length new ≡ length old
  pub bits : (c : ℕ) → has_bit (slice_index new i) c ≡ (has_bit (slice_index old i) c && has_bit mask c)
  pub some : 0 < slice_index new i
  pub fits : slice_index new i < 2 ^ 64
  pub others : (n : ℕ) → (n ≡ i → ⊥) → slice_index new n ≡ slice_index old n

-- the constructor of the term is left
abbrev pub IsLeft : List ℕ → (Term → ℕ) → Term → Type 0
IsLeft masks v t = IsTrue (has_bit (slice_index masks (number_of t)) (v t))

-- two terms have constructors of their sorts
abbrev pub HasBoth : Signature → (Term → ℕ) → Term → Term → Type 0
HasBoth sig v a b = IsTrue (has_constructor sig v a) × IsTrue (has_constructor sig v b)

-- the constructor of each term is left
abbrev pub IsTermWithin : List ℕ → (Term → ℕ) → Type 0
IsTermWithin masks v = (t : Term) → IsTrue (has_entry (length masks) t) → IsLeft masks v t

-- two terms have left what they had, of the constructors of their sorts
pub record AreBothMet (sig : Signature) (a b : Term) (old new : List ℕ) : Type 0 where
  pub size : length new ≡ length old
  pub masks_fit : AreMasks old → AreMasks new
  pub keeps : (v : Term → ℕ) → HasBoth sig v a b → (t : Term) → IsTrue (has_entry (length old) t) → IsLeft old v t → IsLeft new v t
  pub fewer : (v : Term → ℕ) → IsTermWithin new v → IsTermWithin old v
  pub inside : (v : Term → ℕ) → IsTermWithin new v → HasBoth sig v a b

-- each solution is left, and what is left has the sorts and the memberships
pub record AreGathered (sig : Signature) (lits : List Lit) (masks : List ℕ) : Type 0 where
  pub masks_fit : AreMasks masks
  pub keeps : (v : Term → ℕ) → Solves sig lits v → (t : Term) → IsTrue (has_entry (length masks) t) → v t < 64 → IsLeft masks v t
  pub inside : (v : Term → ℕ) → IsTermWithin masks v → IsTrue (list_all (is_inside sig v) lits)
  pub members : (v : Term → ℕ) → IsTermWithin masks v → IsTrue (list_all (is_member_true v) lits)
