-- A function of number and element over a list: its elements, its length, and what changes when the function does.
use Rattle.std.proofs.Common.{◌≡◌, ℕ, zero, suc, ◌+◌, ◌<◌, List, [], ◌∷◌, Some, length, get_or, set, refl, sym, ap, subst, ◌∙◌, arith, add-zero, All, inl, inr}
use Rattle.std.specs.Prelude.{slice_get}
use Rattle.std.specs.List.{AllZip}
use Rattle.std.proofs.lemmas.Bool.{cases_eq}
use Rattle.std.proofs.lemmas.List.{same_lists, get_or-set_same, get_or-set_other, length-set}
use Rattle.std.proofs.lemmas.List.Elements.{All-cons}
use Rattle.cub_base.specs.Numbered.{map_from}

-- a function of number and element over a list
pub length-map_from : {A B : Type 0} (f : ℕ → A → B) (n : ℕ) (xs : List A) → length (map_from f n xs) ≡ length xs
length-map_from f n [] = refl
length-map_from f n (x ∷ xs) = ap suc (length-map_from f (n + 1) xs)

pub get_or-map_from : {A B : Type 0} (f : ℕ → A → B) (n : ℕ) (xs : List A) (i : ℕ) (d : A) (e : B) → i < length xs → get_or (map_from f n xs) i e ≡ f (n + i) (get_or xs i d)
get_or-map_from f n [] i d e h = absurd (omega arith)
get_or-map_from f n (x ∷ xs) zero d e h = let e : n ≡ n + 0 = omega arith in ap (λ m. f m x) e
get_or-map_from f n (x ∷ xs) (suc i) d e h =
    let at : (n + 1) + i ≡ n + suc i = omega arith in
    get_or-map_from f (n + 1) xs i d e (omega arith) ∙ ap (λ m. f m (get_or xs i d)) at

pub get_or-map_from_zero : {A B : Type 0} (f : ℕ → A → B) (xs : List A) (i : ℕ) (d : A) (e : B) → i < length xs → get_or (map_from f 0 xs) i e ≡ f i (get_or xs i d)
get_or-map_from_zero f xs i d e h =
    let at : 0 + i ≡ i = omega arith in
    get_or-map_from f 0 xs i d e h ∙ ap (λ m. f m (get_or xs i d)) at

-- functions that agree give the same list
pub map_from_same : {A B : Type 0} (f g : ℕ → A → B) (n : ℕ) (xs : List A) → ((k : ℕ) (x : A) → g k x ≡ f k x) → map_from g n xs ≡ map_from f n xs
map_from_same f g n [] same = refl
map_from_same f g n (x ∷ xs) same =
    ap (λ y. y ∷ map_from g (n + 1) xs) (same n x) ∙ ap (λ ys. f n x ∷ ys) (map_from_same f g (n + 1) xs same)

pub map_from_id : {A : Type 0} (f : ℕ → A → A) (n : ℕ) (xs : List A) → ((k : ℕ) (x : A) → f k x ≡ x) → map_from f n xs ≡ xs
map_from_id f n [] same = refl
map_from_id f n (x ∷ xs) same =
    ap (λ y. y ∷ map_from f (n + 1) xs) (same n x) ∙ ap (λ ys. x ∷ ys) (map_from_id f (n + 1) xs same)

-- functions that agree but at one number give lists that differ there
pub map_from_set : {A B : Type 0} (f g : ℕ → A → B) (xs : List A) (i : ℕ) (v : B) (d : A) → i < length xs → ((k : ℕ) (x : A) → (k ≡ i → ⊥) → g k x ≡ f k x) → g i (get_or xs i d) ≡ v → map_from g 0 xs ≡ set (map_from f 0 xs) i v
map_from_set {A} {B} f g xs i v d within others here = same_lists (map_from g 0 xs) (set (map_from f 0 xs) i v) lengths at
  where
    old_length : length (map_from f 0 xs) ≡ length xs
    old_length = length-map_from f 0 xs

    lengths : length (map_from g 0 xs) ≡ length (set (map_from f 0 xs) i v)
    lengths = length-map_from g 0 xs ∙ sym old_length ∙ sym (length-set (map_from f 0 xs) i v)

    at : (k : ℕ) (e : B) → k < length (map_from g 0 xs) → get_or (map_from g 0 xs) k e ≡ get_or (set (map_from f 0 xs) i v) k e
    at k e h =
        let l = length-map_from g 0 xs in
        let inside : k < length xs = omega arith in
        elim (cases_eq k i) as (λ _. get_or (map_from g 0 xs) k e ≡ get_or (set (map_from f 0 xs) i v) k e) [
          | inl same ↦
              get_or-map_from_zero g xs k d e inside ∙ ap (λ n. g n (get_or xs n d)) same ∙ here
              ∙ sym (get_or-set_same (map_from f 0 xs) i v e (omega (arith, old_length)))
              ∙ ap (λ n. get_or (set (map_from f 0 xs) i v) n e) (sym same)
          | inr differ ↦
              get_or-map_from_zero g xs k d e inside ∙ others k (get_or xs k d) differ
              ∙ sym (get_or-map_from_zero f xs k d e inside) ∙ sym (get_or-set_other (map_from f 0 xs) i k v e differ)
        ]

-- what holds of two lists place by place holds again after the second is changed place by place
pub zip_map_from : {A B : Type 0} (R : A → B → Type 0) (f : ℕ → B → B) (xs : List A) (ys : List B) (k : ℕ)
    → ((i : ℕ) (x : A) (y : B) → slice_get xs i ≡ Some x → R x y → R x (f (k + i) y)) → AllZip R xs ys → AllZip R xs (map_from f k ys)
zip_map_from R f [] [] k each zip = zip
zip_map_from R f [] (y ∷ ys) k each zip = absurd zip
zip_map_from R f (x ∷ xs) [] k each zip = absurd zip
zip_map_from R f (x ∷ xs) (y ∷ ys) k each zip = (
  subst (λ n. R x (f n y)) (add-zero k) (each 0 x y refl zip.0),
  zip_map_from R f xs ys (k + 1)
      (λ i u v is here. let same : k + suc i ≡ (k + 1) + i = omega arith in subst (λ n. R u (f n v)) same (each (suc i) u v is here)) zip.1,
)

-- the values of an array's cells, changed place by place
pub all_map_from : {B : Type 0} (P : B → Type 0) (f : ℕ → B → B) (ys : List B) (k : ℕ)
    → ((i : ℕ) (y : B) → i < length ys → P y → P (f (k + i) y)) → All P ys → All P (map_from f k ys)
all_map_from P f [] k each all = all
all_map_from P f (y ∷ ys) k each all =
    All-cons P (f k y) (map_from f (k + 1) ys)
    (subst (λ n. P (f n y)) (add-zero k) (each 0 y (omega arith) (all 0 y (omega arith))))
    (all_map_from P f ys (k + 1)
    (λ i z below here. let same : k + suc i ≡ (k + 1) + i = omega arith in subst (λ n. P (f n z)) same (each (suc i) z (omega arith) here))
    (λ i d below. all (suc i) d (omega arith)))
