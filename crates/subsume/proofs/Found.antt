-- Items of a list that pass a test.
use Rattle.std.proofs.Common.{◌≡◌, Bool, true, false, List, [], ◌∷◌, inl, inr, refl, sym, ap, ◌∙◌}
use Rattle.std.specs.Prelude.{◌&&◌, ◌||◌}
use Rattle.std.specs.List.{list_any}
use Rattle.std.proofs.lemmas.Bool.{false≢true, or_cases}
use Rattle.cub_base.proofs.Members.{Has}
use Rattle.subsume.specs.Marks.{some_two}

pub any_has : {A : Type 0} (test : A → Bool) (xs : List A) → list_any test xs ≡ true → (x : A) × Has xs x × (test x ≡ true)
any_has test [] h = absurd (false≢true h)
any_has test (x ∷ xs) h = elim (or_cases (test x) (list_any test xs) h) [
  | inl here ↦ (x, inl refl, here)
  | inr later ↦ let found = any_has test xs later in (found.0, inr found.1, found.2)
]

pub or_right_true : (a b : Bool) → b ≡ true → (a || b) ≡ true
or_right_true true b h = refl
or_right_true false b h = h

pub or_left_true : (a b : Bool) → a ≡ true → (a || b) ≡ true
or_left_true true b h = refl
or_left_true false b h = cc

pub has_any : {A : Type 0} (test : A → Bool) (xs : List A) (x : A) → Has xs x → test x ≡ true → list_any test xs ≡ true
has_any test [] x h is = absurd h
has_any test (y ∷ ys) x (inl same) is = or_left_true (test y) (list_any test ys) (ap test same ∙ is)
has_any test (y ∷ ys) x (inr later) is = or_right_true (test y) (list_any test ys) (has_any test ys x later is)

-- two items that pass a test together
pub two_have : {A : Type 0} (test : A → A → Bool) (xs : List A) → some_two test xs ≡ true → (x : A) × (y : A) × Has xs x × Has xs y × (test x y ≡ true)
two_have test xs h =
    let first = any_has (λ x. list_any (test x) xs) xs h in
    let second = any_has (test first.0) xs first.2 in
    (first.0, second.0, first.1, second.1, second.2)

pub have_two : {A : Type 0} (test : A → A → Bool) (xs : List A) (x y : A) → Has xs x → Has xs y → test x y ≡ true → some_two test xs ≡ true
have_two test xs x y one other h = has_any (λ z. list_any (test z) xs) xs x one (has_any (test x) xs y other h)

-- a test that nothing passes
pub none_any : {A : Type 0} (test : A → Bool) (xs : List A) → ((x : A) → test x ≡ false) → false ≡ list_any test xs
none_any test [] none = refl
none_any test (x ∷ xs) none = none_any test xs none ∙ ap (λ b. b || list_any test xs) (sym (none x))

-- a test that asks for more
pub any_and : {A : Type 0} (a : Bool) (test : A → Bool) (xs : List A) → list_any (λ x. a && test x) xs ≡ (a && list_any test xs)
any_and true test xs = refl
any_and false test xs = sym (none_any (λ x. false) xs (λ x. refl))
