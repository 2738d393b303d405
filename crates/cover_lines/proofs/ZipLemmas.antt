-- Two lists side by side: joined, taken apart, and what stands in them.
use Rattle.std.proofs.Common.{◌≡◌, ℕ, suc, zero, ◌+◌, ◌<◌, List, [], ◌∷◌, ◌++◌, length, refl, sym, ap, ◌∙◌, subst, arith, inl, inr, add-zero, append_assoc}
use Rattle.std.specs.Prelude.{Some, slice_get}
use Rattle.std.specs.List.{AllZip, flat_map}
use Rattle.cub_base.specs.Numbered.{map_from}
use Rattle.cub_base.proofs.Members.{Has}

pub zip_append : {A B : Type 0} (R : A → B → Type 0) (xs ys : List A) (us vs : List B) → AllZip R xs us → AllZip R ys vs → AllZip R (xs ++ ys) (us ++ vs)
zip_append R [] ys [] vs h k = k
zip_append R [] ys (u ∷ us) vs h k = absurd h
zip_append R (x ∷ xs) ys [] vs h k = absurd h
zip_append R (x ∷ xs) ys (u ∷ us) vs h k = (h.0, zip_append R xs ys us vs h.1 k)

pub record Splits {A B : Type 0} (R : A → B → Type 0) (xs ys : List A) (zs : List B) : Type 0 where
  pub front : List B
  pub back : List B
  pub joined : zs ≡ front ++ back
  pub first : AllZip R xs front
  pub second : AllZip R ys back

pub zip_split : {A B : Type 0} (R : A → B → Type 0) (xs ys : List A) (zs : List B) → AllZip R (xs ++ ys) zs → Splits R xs ys zs
zip_split R [] ys zs h = record { front = []; back = zs; joined = refl; first = tt; second = h }
zip_split R (x ∷ xs) ys [] h = absurd h
zip_split R (x ∷ xs) ys (z ∷ zs) h =
    let rest = zip_split R xs ys zs h.1 in
    record { front = z ∷ rest.front; back = rest.back; joined = ap (λ us. z ∷ us) rest.joined; first = (h.0, rest.first); second = rest.second }

pub zip_has_left : {A B : Type 0} (R : A → B → Type 0) (xs : List A) (ys : List B) (x : A) → AllZip R xs ys → Has xs x → (y : B) × Has ys y × R x y
zip_has_left R [] ys x h k = absurd k
zip_has_left R (a ∷ xs) [] x h k = absurd h
zip_has_left {A} {B} R (a ∷ xs) (b ∷ ys) x h (inl same) = (b, inl refl, subst (λ c. R c b) same h.0)
zip_has_left R (a ∷ xs) (b ∷ ys) x h (inr later) = let found = zip_has_left R xs ys x h.1 later in (found.0, inr found.1, found.2)

pub zip_has_right : {A B : Type 0} (R : A → B → Type 0) (xs : List A) (ys : List B) (y : B) → AllZip R xs ys → Has ys y → (x : A) × Has xs x × R x y
zip_has_right R [] [] y h k = absurd k
zip_has_right R [] (b ∷ ys) y h k = absurd h
zip_has_right R (a ∷ xs) [] y h k = absurd k
zip_has_right {A} {B} R (a ∷ xs) (b ∷ ys) y h (inl same) = (a, inl refl, subst (R a) same h.0)
zip_has_right R (a ∷ xs) (b ∷ ys) y h (inr later) = let found = zip_has_right R xs ys y h.1 later in (found.0, inr found.1, found.2)

pub zip_one : {A B : Type 0} (R : A → B → Type 0) (x : A) (y : B) → R x y → AllZip R (x ∷ []) (y ∷ [])
zip_one R x y h = (h, tt)

-- ---- lists by number
pub map_from_push : {A B : Type 0} (f : ℕ → A → B) (n m : ℕ) (xs : List A) (x : A) → m ≡ n + length xs → map_from f n (xs ++ x ∷ []) ≡ map_from f n xs ++ f m x ∷ []
map_from_push f n m [] x e = ap (λ k. f k x ∷ []) (sym (add-zero n) ∙ sym e)
map_from_push f n m (y ∷ xs) x e = ap (λ zs. f n y ∷ zs) (map_from_push f (n + 1) m xs x (omega arith))

no_end : {A : Type 0} (ys : List A) → ys ++ [] ≡ ys
no_end [] = refl
no_end (y ∷ ys) = ap (λ zs. y ∷ zs) (no_end ys)

pub flat_push : {A : Type 0} (xss : List (List A)) (xs : List A) → flat_map (λ ys. ys) (xss ++ xs ∷ []) ≡ flat_map (λ ys. ys) xss ++ xs
flat_push [] xs = no_end xs
flat_push (ys ∷ xss) xs = ap (λ zs. ys ++ zs) (flat_push xss xs) ∙ sym (append_assoc ys (flat_map (λ zs. zs) xss) xs)

-- an item by its place
pub record IsFrom {A B : Type 0} (f : ℕ → A → B) (n : ℕ) (xs : List A) (y : B) : Type 0 where
  pub place : ℕ
  pub item : A
  pub its : slice_get xs place ≡ Some item
  pub is : f (n + place) item ≡ y

pub from_has : {A B : Type 0} (f : ℕ → A → B) (n : ℕ) (xs : List A) (y : B) → Has (map_from f n xs) y → IsFrom f n xs y
from_has f n [] y h = absurd h
from_has f n (x ∷ xs) y (inl same) = record { place = 0; item = x; its = refl; is = ap (λ k. f k x) (add-zero n) ∙ same }
from_has f n (x ∷ xs) y (inr later) =
    let found = from_has f (n + 1) xs y later in
    let at : n + suc found.place ≡ n + 1 + found.place = omega arith in
    record { place = suc found.place; item = found.item; its = found.its; is = ap (λ k. f k found.item) at ∙ found.is }

pub has_from : {A B : Type 0} (f : ℕ → A → B) (n : ℕ) (xs : List A) (k : ℕ) (x : A) → slice_get xs k ≡ Some x → Has (map_from f n xs) (f (n + k) x)
has_from f n [] k x h = cc
has_from f n (y ∷ xs) zero x h = let same : y ≡ x = cc in inl (ap (f n) same ∙ ap (λ k. f k x) (sym (add-zero n)))
has_from f n (y ∷ xs) (suc k) x h =
    let at : n + 1 + k ≡ n + suc k = omega arith in
    inr (subst (λ m. Has (map_from f (n + 1) xs) (f m x)) at (has_from f (n + 1) xs k x h))

pub get_has : {A : Type 0} (xs : List A) (k : ℕ) (x : A) → slice_get xs k ≡ Some x → Has xs x
get_has [] k x h = cc
get_has (y ∷ xs) zero x h = let same : y ≡ x = cc in inl same
get_has (y ∷ xs) (suc k) x h = inr (get_has xs k x h)

pub get_below : {A : Type 0} (xs : List A) (k : ℕ) (x : A) → slice_get xs k ≡ Some x → k < length xs
get_below [] k x h = cc
get_below (y ∷ xs) zero x h = omega arith
get_below (y ∷ xs) (suc k) x h = let below = get_below xs k x h in omega arith

-- what stands in the second list beside an item of the first
pub zip_get_left : {A B : Type 0} (R : A → B → Type 0) (xs : List A) (ys : List B) (k : ℕ) (y : B) → AllZip R xs ys → slice_get ys k ≡ Some y → (x : A) × (slice_get xs k ≡ Some x) × R x y
zip_get_left R [] [] k y h is = cc
zip_get_left R [] (b ∷ ys) k y h is = absurd h
zip_get_left R (a ∷ xs) [] k y h is = absurd h
zip_get_left {A} {B} R (a ∷ xs) (b ∷ ys) zero y h is = let same : b ≡ y = cc in (a, refl, subst (R a) same h.0)
zip_get_left R (a ∷ xs) (b ∷ ys) (suc k) y h is = zip_get_left R xs ys k y h.1 is

pub zip_length : {A B : Type 0} (R : A → B → Type 0) (xs : List A) (ys : List B) → AllZip R xs ys → length xs ≡ length ys
zip_length R [] [] h = refl
zip_length R [] (b ∷ ys) h = absurd h
zip_length R (a ∷ xs) [] h = absurd h
zip_length R (a ∷ xs) (b ∷ ys) h = ap suc (zip_length R xs ys h.1)
