-- Conjunctions as tests over lists: their parts, and tests that follow from others.
use Rattle.std.proofs.Common.{◌≡◌, ℕ, ◌+◌, ◌<◌, Bool, true, false, not, List, [], ◌∷◌, ◌++◌, length, take, drop, get_or, refl, sym, ap, ◌∙◌, append_assoc, inl, inr}
use Rattle.std.specs.List.{list_all, list_any}
use Rattle.std.proofs.lemmas.Bool.{and_parts, and_from, or_parts, or_cases, not-true, not_from_false, false≢true}
use Rattle.std.proofs.lemmas.List.{take_more, take-append-drop}
use Rattle.std.proofs.lemmas.List.Folds.{list_all-append, list_all_more}

pub list_all_front : {X : Type 0} (p : X → Bool) (xs ys : List X) → list_all p (xs ++ ys) ≡ true → list_all p xs ≡ true
list_all_front p xs ys e = (and_parts (list_all p xs) (list_all p ys) (sym (list_all-append p xs ys) ∙ e)).0

pub list_all_back : {X : Type 0} (p : X → Bool) (xs ys : List X) → list_all p (xs ++ ys) ≡ true → list_all p ys ≡ true
list_all_back p xs ys e = (and_parts (list_all p xs) (list_all p ys) (sym (list_all-append p xs ys) ∙ e)).1

pub list_all_join : {X : Type 0} (p : X → Bool) (xs ys : List X) → list_all p xs ≡ true → list_all p ys ≡ true → list_all p (xs ++ ys) ≡ true
list_all_join p xs ys e f = list_all-append p xs ys ∙ and_from (list_all p xs) (list_all p ys) e f

pub list_all_take : {X : Type 0} (p : X → Bool) (xs : List X) (i : ℕ) → list_all p xs ≡ true → list_all p (take i xs) ≡ true
list_all_take p xs i e = list_all_front p (take i xs) (drop i xs) (ap (λ ys. list_all p ys) (take-append-drop i xs) ∙ e)

pub list_all_item : {X : Type 0} (p : X → Bool) (xs : List X) (i : ℕ) (d : X) → i < length xs → list_all p xs ≡ true → p (get_or xs i d) ≡ true
list_all_item p xs i d inside e =
    (and_parts (list_all p (take i xs)) (p (get_or xs i d)) (sym (list_all_more p xs i d inside) ∙ list_all_take p xs (i + 1) e)).1

pub list_all_single : {X : Type 0} (p : X → Bool) (x : X) → list_all p (x ∷ []) ≡ true → p x ≡ true
list_all_single p x e = (and_parts (p x) true e).0

pub list_all_one : {X : Type 0} (p : X → Bool) (x : X) → p x ≡ true → list_all p (x ∷ []) ≡ true
list_all_one p x e = and_from (p x) true e refl

-- each test follows from those of three others
pub list_all_weaker : {X : Type 0} (p q : X → Bool) → ((x : X) → p x ≡ true → q x ≡ true) → (xs : List X) → list_all p xs ≡ true → list_all q xs ≡ true
list_all_weaker p q h [] e = refl
list_all_weaker p q h (x ∷ xs) e =
    let parts = and_parts (p x) (list_all p xs) e in
    and_from (q x) (list_all q xs) (h x parts.0) (list_all_weaker p q h xs parts.1)

pub list_all_both : {X : Type 0} (p q r : X → Bool) → ((x : X) → p x ≡ true → q x ≡ true → r x ≡ true) → (xs : List X) → list_all p xs ≡ true → list_all q xs ≡ true → list_all r xs ≡ true
list_all_both p q r h [] e f = refl
list_all_both p q r h (x ∷ xs) e f =
    let parts = and_parts (p x) (list_all p xs) e in
    let others = and_parts (q x) (list_all q xs) f in
    and_from (r x) (list_all r xs) (h x parts.0 others.0) (list_all_both p q r h xs parts.1 others.1)

-- one more item of the second list
pub append_take_more : {X : Type 0} (xs ys : List X) (i : ℕ) (d : X) → i < length ys → xs ++ take (i + 1) ys ≡ (xs ++ take i ys) ++ get_or ys i d ∷ []
append_take_more xs ys i d inside = ap (λ zs. xs ++ zs) (take_more ys i d inside) ∙ sym (append_assoc xs (take i ys) (get_or ys i d ∷ []))

pub list_all_prefix : {X : Type 0} (p : X → Bool) (xs ys : List X) (i : ℕ) (d : X) → i < length ys → list_all p (xs ++ ys) ≡ true → list_all p ((xs ++ take i ys) ++ get_or ys i d ∷ []) ≡ true
list_all_prefix p xs ys i d inside e =
    list_all_join p (xs ++ take i ys) (get_or ys i d ∷ [])
    (list_all_join p xs (take i ys) (list_all_front p xs ys e) (list_all_take p ys i (list_all_back p xs ys e)))
    (list_all_one p (get_or ys i d) (list_all_item p ys i d inside (list_all_back p xs ys e)))

-- x is one of the items: what holds of all holds of it
abbrev pub IsMember : {X : Type 0} → List X → X → Type 0
IsMember {X} xs x = (p : X → Bool) → list_all p xs ≡ true → p x ≡ true

pub list_all_member : {X : Type 0} (q : X → Bool) (xs : List X) → ((x : X) → IsMember xs x → q x ≡ true) → list_all q xs ≡ true
list_all_member q [] h = refl
list_all_member q (x ∷ xs) h =
    and_from (q x) (list_all q xs) (h x (λ p e. (and_parts (p x) (list_all p xs) e).0))
    (list_all_member q xs (λ y m. h y (λ p e. m p (and_parts (p x) (list_all p xs) e).1)))

pub list_any_member : {X : Type 0} (q : X → Bool) (xs : List X) → list_any q xs ≡ true → (x : X) × (q x ≡ true) × IsMember xs x
list_any_member q [] e = absurd (false≢true e)
list_any_member q (x ∷ xs) e = elim (or_cases (q x) (list_any q xs) e) [
  | inl here ↦ (x, here, λ p all. (and_parts (p x) (list_all p xs) all).0)
  | inr later ↦
      let found = list_any_member q xs later in
      (found.0, found.1, λ p all. found.2 p (and_parts (p x) (list_all p xs) all).1)
]

list_all_not : {X : Type 0} (q : X → Bool) (xs : List X) → list_any q xs ≡ false → list_all (λ y. not (q y)) xs ≡ true
list_all_not q [] e = refl
list_all_not q (x ∷ xs) e =
    let parts = or_parts (q x) (list_any q xs) e in
    and_from (not (q x)) (list_all (λ y. not (q y)) xs) (not_from_false (q x) parts.0) (list_all_not q xs parts.1)

-- what no item is, no member is
pub none_member : {X : Type 0} (q : X → Bool) (xs : List X) (x : X) → IsMember xs x → list_any q xs ≡ false → q x ≡ false
none_member q xs x m e = not-true (q x) (m (λ y. not (q y)) (list_all_not q xs e))
