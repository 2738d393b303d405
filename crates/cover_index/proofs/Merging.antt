-- Counts of numbers with one property or another, of which no number has both.
use Rattle.std.proofs.Common.{◌≡◌, ℕ, zero, suc, ◌+◌, ◌<◌, ◌≤◌, inl, inr, sym, subst, zero-add, add-zero, arith}
use Rattle.std.proofs.lemmas.Bool.{cases_lt, cases_eq}
use Rattle.cover_index.specs.Counted.{AtLeast, RisesFor}

-- ---- a property that follows from another
pub at_least_each : (P Q : ℕ → Type 0) (from upto n : ℕ) → ((i : ℕ) → from ≤ i → i < upto → P i → Q i) → AtLeast P from upto n → AtLeast Q from upto n
at_least_each P Q from upto zero each h = tt
at_least_each P Q from upto (suc n) each (i, low, high, here, rest) =
    (i, low, high, each i low high here, at_least_each P Q (i + 1) upto n (λ j above below. each j (omega (arith, low, above)) below) rest)

pub rises_each : (P Q : ℕ → Type 0) (from upto old new : ℕ) → ((i : ℕ) → from ≤ i → i < upto → P i → Q i) → RisesFor P from upto old new → RisesFor Q from upto old new
rises_each P Q from upto old new each (n, many, most) = (n, at_least_each P Q from upto n each many, most)

-- ---- two properties
module _ (P Q R : ℕ → Type 0) (of_first : (i : ℕ) → P i → R i) (of_second : (i : ℕ) → Q i → R i) (apart : (i : ℕ) → P i → Q i → ⊥) (upto : ℕ) where
  -- the numbers of both, in their order; the first argument bounds how many there are
  at_least_merged : (most from n m : ℕ) → n + m ≤ most → AtLeast P from upto n → AtLeast Q from upto m → AtLeast R from upto (n + m)
  at_least_merged most from zero m few first second =
      subst (AtLeast R from upto) (sym (zero-add m)) (at_least_each Q R from upto m (λ i low high here. of_second i here) second)
  at_least_merged most from (suc n) zero few first second =
      subst (AtLeast R from upto) (sym (add-zero (suc n))) (at_least_each P R from upto (suc n) (λ i low high here. of_first i here) first)
  at_least_merged zero from (suc n) (suc m) few first second = absurd (omega (arith, few))
  at_least_merged (suc most) from (suc n) (suc m) few (i, low, high, here, rest) (j, above, below, there, others) = elim (cases_lt i j) [
    | inl less ↦
        let e : suc (n + suc m) ≡ suc n + suc m = omega arith in
        let more : AtLeast R from upto (suc (n + suc m)) =
        (i, low, high, of_first i here, at_least_merged most (i + 1) n (suc m) (omega (arith, few)) rest (j, omega (arith, less), below, there, others)) in
        subst (AtLeast R from upto) e more
    | inr late ↦ elim (cases_eq j i) [
      | inl same ↦ absurd (apart i here (subst Q same there))
      | inr other ↦
          let e : suc (suc n + m) ≡ suc n + suc m = omega arith in
          let more : AtLeast R from upto (suc (suc n + m)) =
          (j, above, below, of_second j there, at_least_merged most (j + 1) (suc n) m (omega (arith, few)) (i, omega (arith, late, other), high, here, rest) others) in
          subst (AtLeast R from upto) e more
    ]
  ]

  pub rises_merged : (from old between new : ℕ) → RisesFor P from upto old between → RisesFor Q from upto between new → RisesFor R from upto old new
  rises_merged from old between new (n, many, most) (m, more, least) = (n + m, at_least_merged (n + m) from n m (omega arith) many more, omega (arith, most, least))
