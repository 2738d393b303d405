-- What is kept of a list is determined, and its items are exactly those of the list that have the property.
use Rattle.std.proofs.Common.{◌≡◌, ◌⊎◌, suc, zero, List, [], ◌∷◌, length, refl, sym, ap, ◌∙◌, subst, arith, inl, inr}
use Rattle.std.specs.Prelude.{Contains}
use Rattle.cub_cube.specs.Kept.{Keeps}

pub kept_unique : {A : Type 0} (P : A → Type 0) (xs ys zs : List A) → Keeps P xs ys → Keeps P xs zs → ys ≡ zs
kept_unique P [] ys zs h k = h ∙ sym k
kept_unique {A} P (x ∷ xs) ys zs h k = by h k (λ us vs. kept_unique P xs us vs)
  where
    by : (P x × ((us : List A) × (ys ≡ x ∷ us) × Keeps P xs us)) ⊎ ((P x → ⊥) × Keeps P xs ys)
        → (P x × ((us : List A) × (zs ≡ x ∷ us) × Keeps P xs us)) ⊎ ((P x → ⊥) × Keeps P xs zs)
        → ((us vs : List A) → Keeps P xs us → Keeps P xs vs → us ≡ vs) → ys ≡ zs
    by (inl kept) (inl also) rest = kept.1.1 ∙ ap (λ us. x ∷ us) (rest kept.1.0 also.1.0 kept.1.2 also.1.2) ∙ sym also.1.1
    by (inl kept) (inr dropped) rest = absurd (dropped.0 kept.0)
    by (inr dropped) (inl kept) rest = absurd (dropped.0 kept.0)
    by (inr dropped) (inr also) rest = rest ys zs dropped.1 also.1

contains_head : {A : Type 0} (x : A) (xs : List A) → Contains (x ∷ xs) x
contains_head x xs = (0, omega arith, refl)

contains_tail : {A : Type 0} (y x : A) (xs : List A) → Contains xs x → Contains (y ∷ xs) x
contains_tail y x xs (k, below, is) = (suc k, omega arith, is)

contains_cases : {A : Type 0} (y x : A) (xs : List A) → Contains (y ∷ xs) x → (y ≡ x) ⊎ Contains xs x
contains_cases y x xs (zero, below, is) = inl is
contains_cases y x xs (suc k, below, is) = inr (k, omega arith, is)

-- each kept item is one of the list, and has the property
pub kept_from : {A : Type 0} (P : A → Type 0) (xs ys : List A) (y : A) → Keeps P xs ys → Contains ys y → Contains xs y × P y
kept_from P [] ys y h (k, below, is) = let none : length ys ≡ 0 = ap length h in absurd (omega arith)
kept_from {A} P (x ∷ xs) ys y h inside = by h (λ us. kept_from P xs us y)
  where
    by : (P x × ((us : List A) × (ys ≡ x ∷ us) × Keeps P xs us)) ⊎ ((P x → ⊥) × Keeps P xs ys) → ((us : List A) → Keeps P xs us → Contains us y → Contains xs y × P y) → Contains (x ∷ xs) y × P y
    by (inl kept) rest = by_place (contains_cases x y kept.1.0 (subst (λ us. Contains us y) kept.1.1 inside))
      where
        by_place : (x ≡ y) ⊎ Contains kept.1.0 y → Contains (x ∷ xs) y × P y
        by_place (inl same) = (subst (Contains (x ∷ xs)) same (contains_head x xs), subst P same kept.0)
        by_place (inr later) = let found = rest kept.1.0 kept.1.2 later in (contains_tail x y xs found.0, found.1)
    by (inr dropped) rest = let found = rest ys dropped.1 inside in (contains_tail x y xs found.0, found.1)

-- and each item of the list that has the property is kept
pub kept_has : {A : Type 0} (P : A → Type 0) (xs ys : List A) (x : A) → Keeps P xs ys → Contains xs x → P x → Contains ys x
kept_has P [] ys x h (k, below, is) p = absurd (omega arith)
kept_has {A} P (z ∷ xs) ys x h inside p = by h (λ us. kept_has P xs us x)
  where
    by : (P z × ((us : List A) × (ys ≡ z ∷ us) × Keeps P xs us)) ⊎ ((P z → ⊥) × Keeps P xs ys) → ((us : List A) → Keeps P xs us → Contains xs x → P x → Contains us x) → Contains ys x
    by (inl kept) rest = subst (λ us. Contains us x) (sym kept.1.1) (by_place (contains_cases z x xs inside))
      where
        by_place : (z ≡ x) ⊎ Contains xs x → Contains (z ∷ kept.1.0) x
        by_place (inl same) = subst (Contains (z ∷ kept.1.0)) same (contains_head z kept.1.0)
        by_place (inr later) = contains_tail z x kept.1.0 (rest kept.1.0 kept.1.2 later p)
    by (inr dropped) rest = by_place (contains_cases z x xs inside)
      where
        by_place : (z ≡ x) ⊎ Contains xs x → Contains ys x
        by_place (inl same) = absurd (dropped.0 (subst P (sym same) p))
        by_place (inr later) = rest ys dropped.1 later p
