-- A test of each element, as a test and as a fact; the elements of two lists side by side.
use Rattle.std.proofs.Common.{◌≡◌, ℕ, suc, zero, ◌<◌, Bool, true, List, [], ◌∷◌, length, get_or, Some, refl, arith, subst}
use Rattle.std.specs.Prelude.{All, IsTrue, slice_get}
use Rattle.std.specs.List.{list_all, AllZip}
use Rattle.cub_base.proofs.Bools.{and_left, and_right, and_both}

-- one element more
at_each : {X : Type 0} (P : X → Type 0) (x : X) (xs : List X) → P x → All P xs → (k : ℕ) (d : X) → k < length (x ∷ xs) → P (get_or (x ∷ xs) k d)
at_each P x xs here rest zero d below = here
at_each P x xs here rest (suc k) d below = rest k d (omega arith)

-- what the test of all elements says of each
pub all_from : {X : Type 0} (test : X → Bool) (xs : List X) → list_all test xs ≡ true → All (λ x. IsTrue (test x)) xs
all_from test [] h = λ k d below. absurd (omega arith)
all_from test (x ∷ xs) h =
    at_each (λ y. IsTrue (test y)) x xs (and_left (test x) (list_all test xs) h) (all_from test xs (and_right (test x) (list_all test xs) h))

-- and the other way
pub from_all : {X : Type 0} (test : X → Bool) (xs : List X) → All (λ x. IsTrue (test x)) xs → list_all test xs ≡ true
from_all test [] h = refl
from_all test (x ∷ xs) h =
    and_both (test x) (list_all test xs) (h 0 x (omega arith)) (from_all test xs (λ k d below. h (suc k) d (omega arith)))

-- an item of one list stands to that of the other
pub zip_at : {A B : Type 0} (R : A → B → Type 0) (xs : List A) (ys : List B) (i : ℕ) (x : A) (d : B) → AllZip R xs ys → slice_get xs i ≡ Some x → R x (get_or ys i d)
zip_at R [] ys i x d zip is = cc
zip_at R (a ∷ xs) [] i x d zip is = absurd zip
zip_at R (a ∷ xs) (b ∷ ys) zero x d zip is = let same : a ≡ x = cc in subst (λ c. R c b) same zip.0
zip_at R (a ∷ xs) (b ∷ ys) (suc i) x d zip is = zip_at R xs ys i x d zip.1 is
