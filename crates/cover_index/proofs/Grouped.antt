-- Searches of noted groups, one by one, and of all others: what they find together, and that their tests add up.
use Rattle.std.proofs.Common.{◌≡◌, ◌≢◌, ℕ, ◌+◌, ◌/◌, ◌<◌, ◌≤◌, List, length, get_or, inl, inr, sym, ap, ◌∙◌, arith}
use Rattle.std.specs.Prelude.{◌⊎◌, AllPairs}
use Rattle.std.proofs.lemmas.Bool.{cases_lt}
use Rattle.std.proofs.lemmas.List.{get_or_default}
use Rattle.cover_index.specs.Counted.{RisesFor}
use Rattle.cover_index.specs.Noted.{IsNoted}
use Rattle.cover_index.proofs.Searching.{rises_from, rises_within}
use Rattle.cover_index.proofs.Merging.{rises_each, rises_merged}

-- the cube with that number is one of the first groups, so many
abbrev pub IsAmong : List ℕ → ℕ → ℕ → Type 0
IsAmong groups count i = (k : ℕ) × (k < count) × (get_or groups k (i / 64) ≡ i / 64)

module _ (groups : List ℕ) where
  pub among_first : (less count i : ℕ) → less ≤ count → IsAmong groups less i → IsAmong groups count i
  among_first less count i few (k, low, same) = (k, omega (arith, few, low), same)

  module _ (count : ℕ) (below : count < length groups) where
    among_last : (i : ℕ) → i / 64 ≡ get_or groups count 0 → IsAmong groups (count + 1) i
    among_last i here = (count, omega arith, get_or_default groups count (i / 64) 0 below ∙ sym here)

    among_cases : (i : ℕ) → IsAmong groups (count + 1) i → IsAmong groups count i ⊎ (i / 64 ≡ get_or groups count 0)
    among_cases i (k, low, same) = elim (cases_lt k count) [
      | inl less ↦ inl (k, less, same)
      | inr last ↦
          let e : k ≡ count = omega (arith, low, last) in
          inr (sym (sym (get_or_default groups count (i / 64) 0 below) ∙ ap (λ n. get_or groups n (i / 64)) (sym e) ∙ same))
    ]

    among_apart : AllPairs (λ x y. x ≢ y) groups → (i : ℕ) → IsAmong groups count i → i / 64 ≡ get_or groups count 0 → ⊥
    among_apart distinct i (k, low, same) here = distinct k count (i / 64) low below (same ∙ here ∙ sym (get_or_default groups count (i / 64) 0 below))

    -- one more group was looked at
    module _ (P : ℕ → Type 0) (from end upto : ℕ) (order : from ≤ end) (within : end ≤ upto) where
      pub rises_noted : AllPairs (λ x y. x ≢ y) groups → ((i : ℕ) → from ≤ i → i < end → i / 64 ≡ get_or groups count 0) → (old between new : ℕ)
          → RisesFor (λ i. P i × IsAmong groups count i) 0 upto old between → RisesFor P from end between new → RisesFor (λ i. P i × IsAmong groups (count + 1) i) 0 upto old new
      rises_noted distinct inside old between new before here =
          let Own : ℕ → Type 0 = λ i. P i × (i / 64 ≡ get_or groups count 0) in
          rises_merged (λ i. P i × IsAmong groups count i) Own (λ i. P i × IsAmong groups (count + 1) i)
          (λ i both. (both.0, among_first count (count + 1) i (omega arith) both.1)) (λ i both. (both.0, among_last i both.1)) (λ i first second. among_apart distinct i first.1 second.1)
          upto 0 old between new before
          (rises_from Own 0 from upto between new (omega arith) (rises_within Own from end upto between new order within
          (rises_each P Own from end between new (λ i low high it. (it, inside i low high)) here)))

      pub none_noted : (Q R : ℕ → Type 0) → ((i : ℕ) → i < upto → i / 64 ≡ get_or groups count 0 → (from ≤ i) × (i < end))
          → ((i : ℕ) → i < upto → IsAmong groups count i → R i → Q i → ⊥) → ((i : ℕ) → from ≤ i → i < end → R i → Q i → ⊥)
          → (i : ℕ) → i < upto → IsAmong groups (count + 1) i → R i → Q i → ⊥
      none_noted Q R all before here i low it = elim (among_cases i it) [
        | inl first ↦ before i low first
        | inr last ↦ let bounds = all i low last in here i bounds.0 bounds.1
      ]

  -- of the first groups, and of all
  pub rises_first : (P : ℕ → Type 0) (count upto old new : ℕ) → count ≤ length groups → RisesFor (λ i. P i × IsAmong groups count i) 0 upto old new → RisesFor (λ i. P i × IsNoted groups i) 0 upto old new
  rises_first P count upto old new few rises =
      rises_each (λ i. P i × IsAmong groups count i) (λ i. P i × IsNoted groups i) 0 upto old new (λ i low high both. (both.0, among_first count (length groups) i few both.1)) rises

  -- ---- a part that lies in one group
  module _ (from end : ℕ) (one : (i : ℕ) → from ≤ i → i < end → i / 64 ≡ from / 64) where
    noted_there : (i : ℕ) → from ≤ i → i < end → IsNoted groups from → IsNoted groups i
    noted_there i low high (k, below, same) =
        let e : i / 64 ≡ from / 64 = one i low high in
        (k, below, get_or_default groups k (i / 64) (from / 64) below ∙ same ∙ sym e)

    noted_here : (i : ℕ) → from ≤ i → i < end → IsNoted groups i → IsNoted groups from
    noted_here i low high (k, below, same) =
        let e : i / 64 ≡ from / 64 = one i low high in
        (k, below, get_or_default groups k (from / 64) (i / 64) below ∙ same ∙ e)

    -- passed over, since the group is noted
    pub none_other_passed : (Q R : ℕ → Type 0) → IsNoted groups from → (i : ℕ) → from ≤ i → i < end → (IsNoted groups i → ⊥) → R i → Q i → ⊥
    none_other_passed Q R noted i low high other free here = other (noted_there i low high noted)

    -- looked at, since it is not
    pub rises_other : (P : ℕ → Type 0) (old new : ℕ) → (IsNoted groups from → ⊥) → RisesFor P from end old new → RisesFor (λ i. P i × (IsNoted groups i → ⊥)) from end old new
    rises_other P old new other rises = rises_each P (λ i. P i × (IsNoted groups i → ⊥)) from end old new (λ i low high it. (it, λ noted. other (noted_here i low high noted))) rises

  -- ---- the noted groups, and then the others
  pub rises_both : (P : ℕ → Type 0) (upto old between new : ℕ) → RisesFor (λ i. P i × IsNoted groups i) 0 upto old between → RisesFor (λ i. P i × (IsNoted groups i → ⊥)) 0 upto between new → RisesFor P 0 upto old new
  rises_both P upto old between new first second =
      rises_merged (λ i. P i × IsNoted groups i) (λ i. P i × (IsNoted groups i → ⊥)) P (λ i both. both.0) (λ i both. both.0) (λ i here there. there.1 here.1) upto 0 old between new first second

  pub none_both : (Q R : ℕ → Type 0) (upto : ℕ) → ((i : ℕ) → i < upto → IsNoted groups i → R i → Q i → ⊥) → ((i : ℕ) → i < upto → (IsNoted groups i → ⊥) → R i → Q i → ⊥) → (i : ℕ) → i < upto → R i → Q i → ⊥
  none_both Q R upto first second i low free here = second i low (λ noted. first i low noted free here) free here
