-- What a search finds: the first element that passes a test, of a list or of numbers in a row.
use Rattle.std.proofs.Common.{◌≡◌, ℕ, suc, ◌+◌, ◌-◌, ◌<◌, ◌≤◌, Bool, true, false, cond, List, [], ◌∷◌, Option, Some, None, find, refl, sym, ap, subst, ◌∙◌, arith, All}
use Rattle.std.specs.List.{range_with_len}
use Rattle.std.specs.Option.{option_or}
use Rattle.std.proofs.lemmas.List.Elements.{All-cons, All-nil, All-head, All-tail}

-- what is found passes, and is one of the list
pub found_fits : {X : Type 0} (P : X → Type 0) (test : X → Bool) (xs : List X) (y : X) → All P xs → find test xs ≡ Some y → P y × (test y ≡ true)
found_fits P test [] y each h = absurd (let e : None ≡ Some y = h in cc)
found_fits {X} P test (x ∷ xs) y each h =
    (elim (test x) as (λ t. test x ≡ t → cond t (Some x) (find test xs) ≡ Some y → P y × (test y ≡ true)) [
      | true ↦ λ is found. here is found
      | false ↦ λ is found. found_fits P test xs y (All-tail P x xs each) found
    ]) refl h
  where
    here : test x ≡ true → Some x ≡ Some y → P y × (test y ≡ true)
    here is found =
        let same : x ≡ y = cc in
        (subst P same (All-head P x xs each), ap test (sym same) ∙ is)

-- nothing is found exactly where no element passes
pub none_found : {X : Type 0} (test : X → Bool) (xs : List X) → find test xs ≡ None → All (λ x. test x ≡ false) xs
none_found test [] h = All-nil (λ x. test x ≡ false)
none_found {X} test (x ∷ xs) h =
    (elim (test x) as (λ t. test x ≡ t → cond t (Some x) (find test xs) ≡ None → All (λ y. test y ≡ false) (x ∷ xs)) [
      | true ↦ λ is found. absurd (let e : Some x ≡ None = found in cc)
      | false ↦ λ is found. All-cons (λ y. test y ≡ false) x xs is (none_found test xs found)
    ]) refl h

pub find_none : {X : Type 0} (test : X → Bool) (xs : List X) → All (λ x. test x ≡ false) xs → find test xs ≡ None
find_none test [] h = refl
find_none test (x ∷ xs) h =
    ap (λ t. cond t (Some x) (find test xs)) (All-head (λ y. test y ≡ false) x xs h)
    ∙ find_none test xs (All-tail (λ y. test y ≡ false) x xs h)

pub or_none : {X : Type 0} (o : Option X) → option_or o None ≡ o
or_none None = refl
or_none (Some x) = refl

find_cons : {X : Type 0} (p : X → Bool) (x : X) (xs : List X) (b : Bool) → p x ≡ b → find p (x ∷ xs) ≡ cond b (Some x) (find p xs)
find_cons p x xs b h = ap (λ t. cond t (Some x) (find p xs)) h

-- a search of the numbers from i up to n looks at i first
find_range : (p : ℕ → Bool) (i n : ℕ) (b : Bool) → i < n → p i ≡ b → find p (range_with_len i (n - i)) ≡ cond b (Some i) (find p (range_with_len (i + 1) (n - (i + 1))))
find_range p i n b h is =
    let e : n - i ≡ suc (n - (i + 1)) = omega arith in
    ap (λ m. find p (range_with_len i m)) e ∙ find_cons p i (range_with_len (i + 1) (n - (i + 1))) b is

pub find_range_yes : (p : ℕ → Bool) (i n : ℕ) → i < n → p i ≡ true → find p (range_with_len i (n - i)) ≡ Some i
find_range_yes p i n h is = find_range p i n true h is

pub find_range_no : (p : ℕ → Bool) (i n : ℕ) → i < n → p i ≡ false → find p (range_with_len i (n - i)) ≡ find p (range_with_len (i + 1) (n - (i + 1)))
find_range_no p i n h is = find_range p i n false h is

pub find_range_none : (p : ℕ → Bool) (i n : ℕ) → n ≤ i → find p (range_with_len i (n - i)) ≡ None
find_range_none p i n h =
    let e : n - i ≡ 0 = omega arith in
    ap (λ m. find p (range_with_len i m)) e
