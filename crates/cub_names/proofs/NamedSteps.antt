-- One thing more at the front of those among which a name is looked for.
use Rattle.std.proofs.Common.{[], ◌∷◌, ◌≡◌, ℕ, ◌+◌, ◌<◌, Bool, true, false, List, length, get_or, drop, Option, Some, None, refl, sym, ap, ◌∙◌, bytes_eq, suc, IfSome, arith}
use Rattle.std.specs.Prelude.{if◌then◌else◌}
use Rattle.cub_names.specs.Meaning.{first_named, or_else, number_from}
use Rattle.cub_names.proofs.RepeatSteps.{drop_more}

or_else_if : {B : Type 0} (b : Bool) (v : B) (found rest : Option B) → (if b then Some v else or_else found rest) ≡ or_else (if b then Some v else found) rest
or_else_if true v found rest = refl
or_else_if false v found rest = refl

-- nothing else to find
pub or_none : {B : Type 0} (found : Option B) → or_else found None ≡ found
or_none None = refl
or_none (Some a) = refl

module _ {A B : Type 0} (name : A → List ℕ) (what : ℕ → A → B) (xs : List A) (q : List ℕ) (rest : Option B) where
  pub named_more : (k i left : ℕ) (x : A) → left ≡ i + 1 → i < length xs → x ≡ get_or xs i x
      → (new old : Option B) → new ≡ (if bytes_eq (name x) q then Some (what k x) else old)
      → old ≡ or_else (first_named name what (k + 1) (drop left xs) q) rest → new ≡ or_else (first_named name what k (drop i xs) q) rest
  named_more k i left x e inside is new old says was =
      says
      ∙ ap (λ o. if bytes_eq (name x) q then Some (what k x) else o) (was ∙ ap (λ n. or_else (first_named name what (k + 1) (drop n xs) q) rest) e)
      ∙ or_else_if (bytes_eq (name x) q) (what k x) (first_named name what (k + 1) (drop (i + 1) xs) q) rest
      ∙ ap (λ y. or_else (if bytes_eq (name y) q then Some (what k y) else first_named name what (k + 1) (drop (i + 1) xs) q) rest) is
      ∙ ap (λ ys. or_else (first_named name what k ys q) rest) (sym (drop_more xs i x inside))

-- a number that is found is one of the numbers
pub number_within : (k : ℕ) (names : List (List ℕ)) (q : List ℕ) → IfSome (number_from k names q) (λ n. n < k + length names)
number_within k [] q = tt
number_within k (n ∷ ns) q = by (bytes_eq n q) (number_from (k + 1) ns q) (number_within (k + 1) ns q)
  where
    by : (b : Bool) (found : Option ℕ) → IfSome found (λ m. m < k + 1 + length ns) → IfSome (if b then Some k else found) (λ m. m < k + suc (length ns))
    by true found h = omega arith
    by false None h = tt
    by false (Some m) h = omega (arith, h)
