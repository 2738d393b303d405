-- A family of names that differ is a list without repeats, whatever stands before and after it that differs from them.
use Rattle.std.proofs.Common.{◌≡◌, ◌⊎◌, inl, inr, ℕ, zero, suc, ◌+◌, ◌<◌, ◌≤◌, Bool, true, false, not, ◌||◌, ◌&&◌, List, [], ◌∷◌, ◌++◌, map, refl, ap, sym, subst, ◌∙◌, arith, bytes_eq}
use Rattle.std.specs.List.{list_any, range_with_len}
use Rattle.std.proofs.lemmas.Bool.{and_from}
use Rattle.std.proofs.lemmas.List.Folds.{list_any-append}
use Rattle.std.proofs.lemmas.List.{append-nil, append_assoc}
use Rattle.std.proofs.lemmas.Slice.Eq.{bytes_eq-Decides}
use Rattle.cub_base.proofs.Bools.{true_or_false}
use Rattle.cub_proto.specs.Fits.{are_new}

-- two names that differ are not equal by test
pub differ : (xs ys : List ℕ) → (xs ≡ ys → ⊥) → bytes_eq xs ys ≡ false
differ xs ys h = by (true_or_false (bytes_eq xs ys))
  where
    by : (bytes_eq xs ys ≡ true) ⊎ (bytes_eq xs ys ≡ false) → bytes_eq xs ys ≡ false
    by (inl same) = absurd (h ((bytes_eq-Decides xs ys).0 same))
    by (inr other) = other

-- none of a family is the name
pub none_is : (f : ℕ → List ℕ) (x : List ℕ) (a n : ℕ) → ((i : ℕ) → bytes_eq x (f i) ≡ false) → list_any (bytes_eq x) (map f (range_with_len a n)) ≡ false
none_is f x a zero h = refl
none_is f x a (suc n) h = rw (h a) (none_is f x (a + 1) n h)

or_of : (a b : Bool) → a ≡ false → b ≡ false → (a || (b || false)) ≡ false
or_of a b h k = rw (h, k) refl

not_from : (b : Bool) → b ≡ false → not b ≡ true
not_from b h = rw h refl

module _ (f : ℕ → List ℕ) (top : ℕ) (one : (i j : ℕ) → i < top → j < top → f i ≡ f j → i ≡ j) where
  pub new_family : (seen : List (List ℕ)) (a n : ℕ) (rest : List (List ℕ)) → a + n ≤ top
      → ((i : ℕ) → a ≤ i → i < a + n → list_any (bytes_eq (f i)) seen ≡ false)
      → are_new (seen ++ map f (range_with_len a n)) rest ≡ true
      → are_new seen (map f (range_with_len a n) ++ rest) ≡ true
  new_family seen a zero rest fit none h = subst (λ s. are_new s rest ≡ true) (append-nil seen) h
  new_family seen a (suc n) rest fit none h =
      and_from (not (list_any (bytes_eq (f a)) seen)) (are_new (seen ++ f a ∷ []) (map f (range_with_len (a + 1) n) ++ rest))
      (not_from (list_any (bytes_eq (f a)) seen) (none a (omega arith) (omega arith)))
      (new_family (seen ++ f a ∷ []) (a + 1) n rest (omega (arith, fit))
      (λ i low high. list_any-append (bytes_eq (f i)) seen (f a ∷ [])
      ∙ or_of (list_any (bytes_eq (f i)) seen) (bytes_eq (f i) (f a)) (none i (omega (arith, low)) (omega (arith, high)))
      (differ (f i) (f a) (λ same. let is = one i a (omega (arith, high, fit)) (omega (arith, fit)) same in absurd (omega (arith, is, low)))))
      (subst (λ s. are_new s rest ≡ true) (sym (append_assoc seen (f a ∷ []) (map f (range_with_len (a + 1) n)))) h))
