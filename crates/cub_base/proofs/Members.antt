-- Membership by recursion, and through the words that make lists.
use Rattle.std.proofs.Common.{◌≡◌, ◌⊎◌, ℕ, suc, zero, ◌+◌, ◌<◌, List, [], ◌∷◌, ◌++◌, get_or, refl, sym, ap, ◌∙◌, subst, arith, inl, inr}
use Rattle.std.specs.Prelude.{Contains, map, All, AllPairs, ◌≢◌}
use Rattle.std.specs.List.{flat_map, range_with_len}
use Rattle.std.proofs.lemmas.List.{get_or_default}

-- the item is in the list
abbrev pub Has : {A : Type 0} → List A → A → Type 0
Has [] x = ⊥
Has (y ∷ ys) x = (y ≡ x) ⊎ Has ys x

pub has_Contains : {A : Type 0} (xs : List A) (x : A) → Has xs x → Contains xs x
has_Contains [] x h = absurd h
has_Contains (y ∷ ys) x (inl same) = (0, omega arith, same)
has_Contains (y ∷ ys) x (inr later) = let found = has_Contains ys x later in (suc found.0, omega (arith, found.1), found.2)

pub contains_Has : {A : Type 0} (xs : List A) (x : A) → Contains xs x → Has xs x
contains_Has [] x (k, below, is) = absurd (omega arith)
contains_Has (y ∷ ys) x (zero, below, is) = inl is
contains_Has (y ∷ ys) x (suc k, below, is) = inr (contains_Has ys x (k, omega arith, is))

pub has_left : {A : Type 0} (xs ys : List A) (x : A) → Has xs x → Has (xs ++ ys) x
has_left [] ys x h = absurd h
has_left (y ∷ xs) ys x (inl same) = inl same
has_left (y ∷ xs) ys x (inr later) = inr (has_left xs ys x later)

pub has_right : {A : Type 0} (xs ys : List A) (x : A) → Has ys x → Has (xs ++ ys) x
has_right [] ys x h = h
has_right (y ∷ xs) ys x h = inr (has_right xs ys x h)

pub has_cases : {A : Type 0} (xs ys : List A) (x : A) → Has (xs ++ ys) x → Has xs x ⊎ Has ys x
has_cases [] ys x h = inr h
has_cases (y ∷ xs) ys x (inl same) = inl (inl same)
has_cases (y ∷ xs) ys x (inr later) = by (has_cases xs ys x later)
  where
    by : Has xs x ⊎ Has ys x → Has (y ∷ xs) x ⊎ Has ys x
    by (inl h) = inl (inr h)
    by (inr h) = inr h

pub has_map : {A B : Type 0} (f : A → B) (xs : List A) (x : A) → Has xs x → Has (map f xs) (f x)
has_map f [] x h = absurd h
has_map f (y ∷ xs) x (inl same) = inl (ap f same)
has_map f (y ∷ xs) x (inr later) = inr (has_map f xs x later)

pub map_has : {A B : Type 0} (f : A → B) (xs : List A) (b : B) → Has (map f xs) b → (x : A) × Has xs x × (f x ≡ b)
map_has f [] b h = absurd h
map_has f (y ∷ xs) b (inl same) = (y, inl refl, same)
map_has f (y ∷ xs) b (inr later) = let found = map_has f xs b later in (found.0, inr found.1, found.2)

pub has_flat_map : {A B : Type 0} (f : A → List B) (xs : List A) (x : A) (b : B) → Has xs x → Has (f x) b → Has (flat_map f xs) b
has_flat_map f [] x b h k = absurd h
has_flat_map f (y ∷ xs) x b (inl same) k = has_left (f y) (flat_map f xs) b (subst (λ z. Has (f z) b) (sym same) k)
has_flat_map f (y ∷ xs) x b (inr later) k = has_right (f y) (flat_map f xs) b (has_flat_map f xs x b later k)

pub flat_map_has : {A B : Type 0} (f : A → List B) (xs : List A) (b : B) → Has (flat_map f xs) b → (x : A) × Has xs x × Has (f x) b
flat_map_has f [] b h = absurd h
flat_map_has {A} f (y ∷ xs) b h = by (has_cases (f y) (flat_map f xs) b h) (flat_map_has f xs b)
  where
    by : Has (f y) b ⊎ Has (flat_map f xs) b → (Has (flat_map f xs) b → (x : A) × Has xs x × Has (f x) b) → (x : A) × Has (y ∷ xs) x × Has (f x) b
    by (inl here) rest = (y, inl refl, here)
    by (inr later) rest = let found = rest later in (found.0, inr found.1, found.2)

pub has_range : (from n i : ℕ) → i < n → Has (range_with_len from n) (from + i)
has_range from zero i h = absurd (omega arith)
has_range from (suc n) zero h = inl (omega arith)
has_range from (suc n) (suc i) h = inr (let same : from + 1 + i ≡ from + suc i = omega arith in subst (Has (range_with_len (from + 1) n)) same (has_range (from + 1) n i (omega arith)))

-- no item stands twice
abbrev pub Distinct : {A : Type 0} → List A → Type 0
Distinct [] = Unit {0}
Distinct (x ∷ xs) = (Has xs x → ⊥) × Distinct xs

pub distinct_pairs : {A : Type 0} (xs : List A) → Distinct xs → AllPairs (λ x y. x ≢ y) xs
distinct_pairs [] h i j d order below = absurd (omega arith)
distinct_pairs (x ∷ xs) h i zero d order below = absurd (omega arith)
distinct_pairs (x ∷ xs) h zero (suc j) d order below = λ same. h.0 (contains_Has xs x (j, omega arith, get_or_default xs j x d (omega arith) ∙ sym same))
distinct_pairs (x ∷ xs) h (suc i) (suc j) d order below = distinct_pairs xs h.1 i j d (omega arith) (omega arith)

pub pairs_distinct : {A : Type 0} (xs : List A) → AllPairs (λ x y. x ≢ y) xs → Distinct xs
pairs_distinct [] h = tt
pairs_distinct (x ∷ xs) h = (
  λ later. let found = has_Contains xs x later in h 0 (suc found.0) x (omega arith) (omega (arith, found.1)) (sym found.2),
  pairs_distinct xs (λ i j d order below. h (suc i) (suc j) d (omega arith) (omega arith)),
)

-- what holds of each item
pub all_has : {A : Type 0} (P : A → Type 0) (xs : List A) (x : A) → All P xs → Has xs x → P x
all_has P xs x all h = let found = has_Contains xs x h in subst P found.2 (all found.0 x found.1)

pub has_all : {A : Type 0} (P : A → Type 0) (xs : List A) → ((x : A) → Has xs x → P x) → All P xs
has_all P xs each k d below = each (get_or xs k d) (contains_Has xs (get_or xs k d) (k, below, get_or_default xs k (get_or xs k d) d below))
