-- Lists: members through filters and numbers, prefixes, and items of two lists side by side.
use Rattle.std.proofs.Common.{◌≡◌, ◌⊎◌, ℕ, suc, zero, ◌+◌, ◌<◌, ◌≤◌, Bool, true, false, List, [], ◌∷◌, ◌++◌, length, Some, refl, sym, ap, ◌∙◌, subst, arith, inl, inr}
use Rattle.std.specs.Prelude.{map, filter, ◌||◌, ◌==◌, if◌then◌else◌, IsTrue, slice_get, slice_index}
use Rattle.std.specs.List.{flat_map, AllZip}
use Rattle.cub_base.specs.Numbered.{map_from}
use Rattle.cub_cube.specs.Rename.{along, Agree}
use Rattle.cub_base.proofs.Bools.{same_refl, same_is}
use Rattle.cub_base.proofs.Members.{Has, has_left, has_right, has_cases}
use Rattle.piece_choices.specs.Placings.{is_among}

-- ---- filters
pub filter_has : {A : Type 0} (test : A → Bool) (xs : List A) (x : A) → Has (filter test xs) x → Has xs x × IsTrue (test x)
filter_has test [] x h = absurd h
filter_has {A} test (y ∷ ys) x h = by (test y) refl h (filter_has test ys x)
  where
    by : (b : Bool) → test y ≡ b → Has (if b then y ∷ filter test ys else filter test ys) x → (Has (filter test ys) x → Has ys x × IsTrue (test x)) → Has (y ∷ ys) x × IsTrue (test x)
    by true e (inl same) rest = (inl same, subst (λ z. IsTrue (test z)) same e)
    by true e (inr later) rest = (inr (rest later).0, (rest later).1)
    by false e later rest = (inr (rest later).0, (rest later).1)

pub has_filter : {A : Type 0} (test : A → Bool) (xs : List A) (x : A) → Has xs x → IsTrue (test x) → Has (filter test xs) x
has_filter test [] x h t = absurd h
has_filter {A} test (y ∷ ys) x h t = by (test y) refl h (λ later. has_filter test ys x later t)
  where
    by : (b : Bool) → test y ≡ b → Has (y ∷ ys) x → (Has ys x → Has (filter test ys) x) → Has (if b then y ∷ filter test ys else filter test ys) x
    by true e (inl same) rest = inl same
    by true e (inr later) rest = inr (rest later)
    by false e (inl same) rest = absurd (let no : test x ≡ false = ap test (sym same) ∙ e in cc)
    by false e (inr later) rest = rest later

-- ---- among
pub among_has : (xs : List ℕ) (q : ℕ) → is_among xs q ≡ true → Has xs q
among_has [] q h = cc
among_has (x ∷ xs) q h = by (x == q) refl h (among_has xs q)
  where
    by : (b : Bool) → (x == q) ≡ b → (b || is_among xs q) ≡ true → (is_among xs q ≡ true → Has xs q) → Has (x ∷ xs) q
    by true e h rest = inl (same_is x q e)
    by false e h rest = inr (rest h)

pub has_among : (xs : List ℕ) (q : ℕ) → Has xs q → is_among xs q ≡ true
has_among [] q h = absurd h
has_among (x ∷ xs) q (inl same) = ap (λ b. b || is_among xs q) (ap (λ n. x == n) (sym same) ∙ same_refl x)
has_among (x ∷ xs) q (inr later) = ap (λ b. (x == q) || b) (has_among xs q later) ∙ by (x == q)
  where
    by : (b : Bool) → (b || true) ≡ true
    by true = refl
    by false = refl

pub not_among : (xs : List ℕ) (q : ℕ) → (Has xs q → ⊥) → is_among xs q ≡ false
not_among xs q h = by (is_among xs q) refl
  where
    by : (b : Bool) → is_among xs q ≡ b → b ≡ false
    by true e = absurd (h (among_has xs q e))
    by false e = refl

pub among_not : (xs : List ℕ) (q : ℕ) → is_among xs q ≡ false → Has xs q → ⊥
among_not xs q e h = let yes_it : is_among xs q ≡ true = has_among xs q h in cc

-- a number is in a list or not
pub among_or_not : (xs : List ℕ) (q : ℕ) → Has xs q ⊎ (Has xs q → ⊥)
among_or_not xs q = by (is_among xs q) refl
  where
    by : (b : Bool) → is_among xs q ≡ b → Has xs q ⊎ (Has xs q → ⊥)
    by true e = inl (among_has xs q e)
    by false e = inr (among_not xs q e)

-- ---- where a member stands
pub has_place : (xs : List ℕ) (i : ℕ) → Has xs i → (q : ℕ) × (q < length xs) × (slice_index xs q ≡ i)
has_place [] i h = absurd h
has_place (x ∷ xs) i (inl same) = (0, omega arith, same)
has_place (x ∷ xs) i (inr later) = let found = has_place xs i later in (suc found.0, omega (arith, found.1), found.2)

pub place_has : (xs : List ℕ) (q : ℕ) → q < length xs → Has xs (slice_index xs q)
place_has [] q h = absurd (omega arith)
place_has (x ∷ xs) zero h = inl refl
place_has (x ∷ xs) (suc q) h = inr (place_has xs q (omega arith))

-- ---- extensions of a list of processes
pub at_front : (xs more : List ℕ) (q : ℕ) → q < length xs → slice_index (xs ++ more) q ≡ slice_index xs q
at_front [] more q h = absurd (omega arith)
at_front (x ∷ xs) more zero h = refl
at_front (x ∷ xs) more (suc q) h = at_front xs more q (omega arith)

pub at_end : (xs : List ℕ) (x : ℕ) → slice_index (xs ++ x ∷ []) (length xs) ≡ x
at_end [] x = refl
at_end (y ∷ ys) x = at_end ys x

pub along_front : (r xs more : List ℕ) → ((q : ℕ) → Has r q → q < length xs) → along r (xs ++ more) ≡ along r xs
along_front [] xs more below = refl
along_front (q ∷ qs) xs more below =
    ap (λ i. i ∷ along qs (xs ++ more)) (at_front xs more q (below q (inl refl))) ∙ ap (λ is. slice_index xs q ∷ is) (along_front qs xs more (λ p h. below p (inr h)))

pub front_agrees : (width : ℕ) (xs more : List ℕ) → width ≤ length xs → Agree width (xs ++ more) xs
front_agrees width xs more h p below = at_front xs more p (omega arith)

-- ---- one by one
pub zip_length : {A B : Type 0} (R : A → B → Type 0) (xs : List A) (ys : List B) → AllZip R xs ys → length xs ≡ length ys
zip_length R [] [] h = refl
zip_length R [] (y ∷ ys) h = absurd h
zip_length R (x ∷ xs) [] h = absurd h
zip_length R (x ∷ xs) (y ∷ ys) h = ap suc (zip_length R xs ys h.1)

-- each item of the second list has a partner
pub zip_right : {A B : Type 0} (R : A → B → Type 0) (xs : List A) (ys : List B) (y : B) → AllZip R xs ys → Has ys y → (x : A) × Has xs x × R x y
zip_right R [] [] y h at = absurd at
zip_right R [] (z ∷ zs) y h at = absurd h
zip_right R (x ∷ xs) [] y h at = absurd at
zip_right R (x ∷ xs) (z ∷ zs) y h (inl same) = (x, inl refl, subst (R x) same h.0)
zip_right R (x ∷ xs) (z ∷ zs) y h (inr later) = let found = zip_right R xs zs y h.1 later in (found.0, inr found.1, found.2)

pub zip_left : {A B : Type 0} (R : A → B → Type 0) (xs : List A) (ys : List B) (x : A) → AllZip R xs ys → Has xs x → (y : B) × Has ys y × R x y
zip_left R [] ys x h at = absurd at
zip_left R (z ∷ zs) [] x h at = absurd h
zip_left R (z ∷ zs) (y ∷ ys) x h (inl same) = (y, inl refl, subst (λ w. R w y) same h.0)
zip_left R (z ∷ zs) (y ∷ ys) x h (inr later) = let found = zip_left R zs ys x h.1 later in (found.0, inr found.1, found.2)

-- a partner for each item of a list
pub zip_find : {A B : Type 0} (R : A → B → Type 0) (xs : List A) → ((x : A) → Has xs x → (y : B) × R x y) → (ys : List B) × AllZip R xs ys
zip_find R [] each = ([], tt)
zip_find R (x ∷ xs) each = let first = each x (inl refl) in let rest = zip_find R xs (λ y h. each y (inr h)) in (first.0 ∷ rest.0, (first.1, rest.1))

pub zip_through : {A B C : Type 0} (R : B → C → Type 0) (f : A → B) (xs : List A) (ys : List C) → AllZip (λ x y. R (f x) y) xs ys → AllZip R (map f xs) ys
zip_through R f [] [] h = tt
zip_through R f [] (y ∷ ys) h = absurd h
zip_through R f (x ∷ xs) [] h = absurd h
zip_through R f (x ∷ xs) (y ∷ ys) h = (h.0, zip_through R f xs ys h.1)

pub through_zip : {A B C : Type 0} (R : B → C → Type 0) (f : A → B) (xs : List A) (ys : List C) → AllZip R (map f xs) ys → AllZip (λ x y. R (f x) y) xs ys
through_zip R f [] [] h = tt
through_zip R f [] (y ∷ ys) h = absurd h
through_zip R f (x ∷ xs) [] h = absurd h
through_zip R f (x ∷ xs) (y ∷ ys) h = (h.0, through_zip R f xs ys h.1)

pub zip_weaker : {A B : Type 0} (R S : A → B → Type 0) (xs : List A) (ys : List B) → ((x : A) (y : B) → Has xs x → R x y → S x y) → AllZip R xs ys → AllZip S xs ys
zip_weaker R S [] [] weaker h = tt
zip_weaker R S [] (y ∷ ys) weaker h = absurd h
zip_weaker R S (x ∷ xs) [] weaker h = absurd h
zip_weaker R S (x ∷ xs) (y ∷ ys) weaker h = (weaker x y (inl refl) h.0, zip_weaker R S xs ys (λ u v at. weaker u v (inr at)) h.1)

-- ---- items and their numbers
pub map_from_has : {A B : Type 0} (f : ℕ → A → List B) (n : ℕ) (xs : List A) (b : B) → Has (flat_map (λ ys. ys) (map_from f n xs)) b → (k : ℕ) × (x : A) × (slice_get xs k ≡ Some x) × Has (f (n + k) x) b
map_from_has f n [] b h = absurd h
map_from_has {A} {B} f n (x ∷ xs) b h = by (has_cases (f n x) (flat_map (λ ys. ys) (map_from f (n + 1) xs)) b h) (map_from_has f (n + 1) xs b)
  where
    by : Has (f n x) b ⊎ Has (flat_map (λ ys. ys) (map_from f (n + 1) xs)) b → (Has (flat_map (λ ys. ys) (map_from f (n + 1) xs)) b → (k : ℕ) × (y : A) × (slice_get xs k ≡ Some y) × Has (f (n + 1 + k) y) b)
        → (k : ℕ) × (y : A) × (slice_get (x ∷ xs) k ≡ Some y) × Has (f (n + k) y) b
    by (inl here) rest = (0, x, refl, subst (λ m. Has (f m x) b) (let e : n ≡ n + 0 = omega arith in e) here)
    by (inr later) rest =
        let found = rest later in
        (suc found.0, found.1, found.2, subst (λ m. Has (f m found.1) b) (let e : n + 1 + found.0 ≡ n + suc found.0 = omega arith in e) found.3)

pub has_map_from : {A B : Type 0} (f : ℕ → A → List B) (n : ℕ) (xs : List A) (k : ℕ) (x : A) (b : B) → slice_get xs k ≡ Some x → Has (f (n + k) x) b → Has (flat_map (λ ys. ys) (map_from f n xs)) b
has_map_from f n [] k x b at h = cc
has_map_from f n (y ∷ ys) zero x b at h =
    let same : y ≡ x = cc in
    has_left (f n y) (flat_map (λ zs. zs) (map_from f (n + 1) ys)) b (subst (λ z. Has (f n z) b) (sym same) (subst (λ m. Has (f m x) b) (let e : n + 0 ≡ n = omega arith in e) h))
has_map_from f n (y ∷ ys) (suc k) x b at h =
    has_right (f n y) (flat_map (λ zs. zs) (map_from f (n + 1) ys)) b
    (has_map_from f (n + 1) ys k x b at (subst (λ m. Has (f m x) b) (let e : n + suc k ≡ n + 1 + k = omega arith in e) h))
