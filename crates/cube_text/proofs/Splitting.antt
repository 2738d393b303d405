-- Parts of lists that were put together.
use Rattle.std.proofs.Common.{◌≡◌, ℕ, Bool, true, false, cond, ◌==◌, List, [], ◌∷◌, ◌++◌, refl, ap, ◌∙◌}
use Rattle.cube_text.specs.Form.{parted, in_first, before, onward}

-- no item passes the test
abbrev pub Free : {X : Type 0} → (X → Bool) → List X → Type 0
Free test [] = Unit {0}
Free test (x ∷ xs) = (test x ≡ false) × Free test xs

pub free_append : {X : Type 0} (test : X → Bool) (xs ys : List X) → Free test xs → Free test ys → Free test (xs ++ ys)
free_append test [] ys f g = g
free_append test (x ∷ xs) ys f g = (f.0, free_append test xs ys f.1 g)

module _ {X : Type 0} (test : X → Bool) where
  pub parted_free : (xs : List X) → Free test xs → parted test xs ≡ xs ∷ []
  parted_free [] f = refl
  parted_free (x ∷ xs) f = rw (f.0, parted_free xs f.1) refl

  -- a part up to an item that passes
  pub parted_at : (xs : List X) (s : X) (ys : List X) → Free test xs → test s ≡ true → parted test (xs ++ s ∷ ys) ≡ xs ∷ parted test ys
  parted_at [] s ys f h = rw h refl
  parted_at (x ∷ xs) s ys f h = rw (f.0, parted_at xs s ys f.1 h) refl

  -- there is always a first part
  pub first_of : (xs : List X) → (part : List X) × (parts : List (List X)) × (parted test xs ≡ part ∷ parts)
  first_of [] = ([], [], refl)
  first_of (x ∷ xs) = by (test x) (first_of xs)
    where
      by : (b : Bool) → ((part : List X) × (parts : List (List X)) × (parted test xs ≡ part ∷ parts))
          → (part : List X) × (parts : List (List X)) × (cond b ([] ∷ parted test xs) (in_first x (parted test xs)) ≡ part ∷ parts)
      by true later = ([], parted test xs, refl)
      by false later = (x ∷ later.0, later.1, ap (in_first x) later.2)

  -- parts on both sides of an item that passes
  pub parted_join : (xs : List X) (s : X) (ys : List X) → test s ≡ true → parted test (xs ++ s ∷ ys) ≡ parted test xs ++ parted test ys
  parted_join [] s ys h = rw h refl
  parted_join (x ∷ xs) s ys h = by (test x) (parted_join xs s ys h)
    where
      joined : (part : List X) (parts : List (List X)) → parted test xs ≡ part ∷ parts → in_first x (parted test xs ++ parted test ys) ≡ in_first x (parted test xs) ++ parted test ys
      joined part parts is = rw is refl

      by : (b : Bool) → parted test (xs ++ s ∷ ys) ≡ parted test xs ++ parted test ys
          → cond b ([] ∷ parted test (xs ++ s ∷ ys)) (in_first x (parted test (xs ++ s ∷ ys))) ≡ cond b ([] ∷ parted test xs) (in_first x (parted test xs)) ++ parted test ys
      by true later = ap (λ t. [] ∷ t) later
      by false later = let f = first_of xs in ap (in_first x) later ∙ joined f.0 f.1 f.2

-- bytes before and from a byte on
module _ (c : ℕ) where
  pub before_at : (xs ys : List ℕ) → Free (λ b. b == c) xs → (c == c) ≡ true → before c (xs ++ c ∷ ys) ≡ xs
  before_at [] ys f same = rw same refl
  before_at (x ∷ xs) ys f same = rw (f.0, before_at xs ys f.1 same) refl

  pub onward_at : (xs ys : List ℕ) → Free (λ b. b == c) xs → (c == c) ≡ true → onward c (xs ++ c ∷ ys) ≡ c ∷ ys
  onward_at [] ys f same = rw same refl
  onward_at (x ∷ xs) ys f same = rw (f.0, onward_at xs ys f.1 same) refl

  pub before_all : (xs : List ℕ) → Free (λ b. b == c) xs → before c xs ≡ xs
  before_all [] f = refl
  before_all (x ∷ xs) f = rw (f.0, before_all xs f.1) refl

  pub onward_none : (xs : List ℕ) → Free (λ b. b == c) xs → onward c xs ≡ []
  onward_none [] f = refl
  onward_none (x ∷ xs) f = rw (f.0, onward_none xs f.1) refl

-- words between single blanks
abbrev pub is_blank : ℕ → Bool
is_blank b = b == 32

pub three : (a op b : List ℕ) → Free is_blank a → Free is_blank op → Free is_blank b → parted is_blank (a ++ 32 ∷ (op ++ 32 ∷ b)) ≡ a ∷ op ∷ b ∷ []
three a op b f g h =
    parted_at is_blank a 32 (op ++ 32 ∷ b) f refl
    ∙ ap (λ t. a ∷ t) (parted_at is_blank op 32 b g refl ∙ ap (λ t. op ∷ t) (parted_free is_blank b h))

pub five : (a minus b most n : List ℕ) → Free is_blank a → Free is_blank minus → Free is_blank b → Free is_blank most → Free is_blank n
    → parted is_blank (a ++ 32 ∷ (minus ++ 32 ∷ (b ++ 32 ∷ (most ++ 32 ∷ n)))) ≡ a ∷ minus ∷ b ∷ most ∷ n ∷ []
five a minus b most n f g h k m =
    parted_at is_blank a 32 (minus ++ 32 ∷ (b ++ 32 ∷ (most ++ 32 ∷ n))) f refl
    ∙ ap (λ t. a ∷ t) (parted_at is_blank minus 32 (b ++ 32 ∷ (most ++ 32 ∷ n)) g refl ∙ ap (λ t. minus ∷ t) (three b most n h k m))
