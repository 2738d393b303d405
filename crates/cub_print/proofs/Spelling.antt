-- Marks that are written one after another.
use Rattle.std.proofs.Common.{◌≡◌, ℕ, zero, suc, ◌+◌, ◌-◌, ◌<◌, List, [], ◌∷◌, ◌++◌, length, take, get_or, refl, sym, ap, ◌∙◌, arith, append_assoc}
use Rattle.std.specs.Prelude.{flat_map}
use Rattle.std.specs.List.{range_with_len}
use Rattle.std.proofs.lemmas.List.{take_more}
use Rattle.std.proofs.lemmas.Grind.{flat_map-append}
use Rattle.cub_print.specs.Mark.{Mark, spelled, bytes_of}

append_nil : {A : Type 0} (xs : List A) → xs ++ [] ≡ xs
append_nil [] = refl
append_nil (x ∷ xs) = ap (λ ys. x ∷ ys) (append_nil xs)

pub spelled-append : (a b : List Mark) → spelled (a ++ b) ≡ spelled a ++ spelled b
spelled-append a b = flat_map-append bytes_of a b

-- one item more at the end
flat_map_push : {A : Type 0} (f : A → List Mark) (xs : List A) (x : A) → spelled (flat_map f (xs ++ x ∷ [])) ≡ spelled (flat_map f xs) ++ spelled (f x)
flat_map_push f xs x =
    ap spelled (flat_map-append f xs (x ∷ []) ∙ ap (λ y. flat_map f xs ++ y) (append_nil (f x))) ∙ spelled-append (flat_map f xs) (f x)

spelled_more : {A : Type 0} (f : A → List Mark) (xs : List A) (i : ℕ) (d : A) → i < length xs
    → spelled (flat_map f (take i xs)) ++ spelled (f (get_or xs i d)) ≡ spelled (flat_map f (take (i + 1) xs))
spelled_more f xs i d below =
    sym (flat_map_push f (take i xs) (get_or xs i d)) ∙ ap (λ ys. spelled (flat_map f ys)) (sym (take_more xs i d below))

-- the step of a loop over a list
pub spelled_item : {A : Type 0} {old new : List ℕ} (start : List ℕ) (f : A → List Mark) (xs : List A) (i : ℕ) (d : A)
    → old ≡ start ++ spelled (flat_map f (take i xs)) → new ≡ old ++ spelled (f (get_or xs i d)) → i < length xs
    → new ≡ start ++ spelled (flat_map f (take (i + 1) xs))
spelled_item start f xs i d before step below =
    step ∙ ap (λ x. x ++ spelled (f (get_or xs i d))) before ∙ append_assoc start (spelled (flat_map f (take i xs))) (spelled (f (get_or xs i d)))
    ∙ ap (λ x. start ++ x) (spelled_more f xs i d below)

pub spelled_next : {A : Type 0} {old new : List ℕ} (start : List ℕ) (f : A → List Mark) (xs : List A) (i : ℕ) (d : A)
    → old ≡ start ++ spelled (flat_map f (take i xs)) → new ≡ old ++ spelled (f d) → d ≡ get_or xs i d → i < length xs
    → new ≡ start ++ spelled (flat_map f (take (i + 1) xs))
spelled_next {old = old} start f xs i d before step at below = spelled_item start f xs i d before (step ∙ ap (λ x. old ++ spelled (f x)) at) below

range_push : (a n : ℕ) → range_with_len a (n + 1) ≡ range_with_len a n ++ (a + n) ∷ []
range_push a zero = let e : a ≡ a + 0 = omega arith in ap (λ x. x ∷ []) e
range_push a (suc n) =
    let e : (a + 1) + n ≡ a + suc n = omega arith in
    let ahead : suc n + 1 ≡ suc (n + 1) = omega arith in
    ap (range_with_len a) ahead ∙ ap (λ x. a ∷ x) (range_push (a + 1) n ∙ ap (λ x. range_with_len (a + 1) n ++ x ∷ []) e)

-- the step of a loop over numbers from 1 on
pub spelled_at : {old new : List ℕ} (start : List ℕ) (f : ℕ → List Mark) (i : ℕ) → old ≡ start ++ spelled (flat_map f (range_with_len 1 (i - 1)))
    → new ≡ old ++ spelled (f i) → 1 < i + 1 → new ≡ start ++ spelled (flat_map f (range_with_len 1 (i + 1 - 1)))
spelled_at start f zero before step some = absurd (omega arith)
spelled_at start f (suc n) before step some =
    let back : suc n - 1 ≡ n = omega arith in
    let ahead : suc n + 1 - 1 ≡ n + 1 = omega arith in
    let here : 1 + n ≡ suc n = omega arith in
    step ∙ ap (λ x. x ++ spelled (f (suc n))) before
    ∙ append_assoc start (spelled (flat_map f (range_with_len 1 (suc n - 1)))) (spelled (f (suc n)))
    ∙ ap (λ m. start ++ (spelled (flat_map f (range_with_len 1 m)) ++ spelled (f (suc n)))) back
    ∙ ap (λ x. start ++ x)
    (sym (flat_map_push f (range_with_len 1 n) (suc n)) ∙ ap (λ m. spelled (flat_map f (range_with_len 1 n ++ m ∷ []))) (sym here)
    ∙ ap (λ ys. spelled (flat_map f ys)) (sym (range_push 1 n)) ∙ ap (λ m. spelled (flat_map f (range_with_len 1 m))) (sym ahead))
