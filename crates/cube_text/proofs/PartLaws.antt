-- Parts of lists, and of bytes up to a byte.
use Rattle.std.proofs.Common.{◌≡◌, ℕ, suc, ◌+◌, ◌<◌, ◌≤◌, Bool, true, false, not, cond, ◌==◌, nat_lt, List, [], ◌∷◌, length, take, drop, map, refl, ap, sym, subst, ◌∙◌, arith}
use Rattle.std.specs.List.{prefix_len}
use Rattle.std.proofs.lemmas.List.{take_all, length-drop, drop-drop}
use Rattle.std.proofs.lemmas.Bool.{le-leb, lt-leb, ltb-true, ltb-false}
use Rattle.cube_text.specs.Form.{parted, in_first, before, onward, is_and}
use Rattle.cube_text.specs.Groups.{groups_from}

one_more : (n : ℕ) → 1 + n ≡ suc n
one_more n = omega arith

pub before_is_take : (c : ℕ) (t : List ℕ) → before c t ≡ take (prefix_len (λ b. not (b == c)) t) t
before_is_take c [] = refl
before_is_take c (b ∷ bs) = by (b == c) (before_is_take c bs)
  where
    by : (x : Bool) → before c bs ≡ take (prefix_len (λ y. not (y == c)) bs) bs → cond x [] (b ∷ before c bs) ≡ take (cond (not x) (1 + prefix_len (λ y. not (y == c)) bs) 0) (b ∷ bs)
    by true same = refl
    by false same = ap (λ xs. b ∷ xs) same ∙ ap (λ n. take n (b ∷ bs)) (sym (one_more (prefix_len (λ y. not (y == c)) bs)))

pub onward_is_drop : (c : ℕ) (t : List ℕ) → onward c t ≡ drop (prefix_len (λ b. not (b == c)) t) t
onward_is_drop c [] = refl
onward_is_drop c (b ∷ bs) = by (b == c) (onward_is_drop c bs)
  where
    by : (x : Bool) → onward c bs ≡ drop (prefix_len (λ y. not (y == c)) bs) bs → cond x (b ∷ bs) (onward c bs) ≡ drop (cond (not x) (1 + prefix_len (λ y. not (y == c)) bs) 0) (b ∷ bs)
    by true same = refl
    by false same = same ∙ ap (λ n. drop n (b ∷ bs)) (sym (one_more (prefix_len (λ y. not (y == c)) bs)))

module _ {X : Type 0} (test : X → Bool) where
  -- a first part, up to an item that passes the test
  pub first_part : (xs : List X) → prefix_len (λ x. not (test x)) xs < length xs
      → parted test xs ≡ take (prefix_len (λ x. not (test x)) xs) xs ∷ parted test (drop (prefix_len (λ x. not (test x)) xs + 1) xs)
  first_part [] some = absurd (omega arith)
  first_part (x ∷ xs) some = by (test x) (first_part xs) some
    where
      n : ℕ
      n = prefix_len (λ y. not (test y)) xs

      by : (b : Bool) → (prefix_len (λ y. not (test y)) xs < length xs → parted test xs ≡ take (prefix_len (λ y. not (test y)) xs) xs ∷ parted test (drop (prefix_len (λ y. not (test y)) xs + 1) xs))
          → cond (not b) (1 + prefix_len (λ y. not (test y)) xs) 0 < length (x ∷ xs)
          → cond b ([] ∷ parted test xs) (in_first x (parted test xs))
          ≡ take (cond (not b) (1 + prefix_len (λ y. not (test y)) xs) 0) (x ∷ xs) ∷ parted test (drop (cond (not b) (1 + prefix_len (λ y. not (test y)) xs) 0 + 1) (x ∷ xs))
      by true later some = refl
      by false later some =
          let shift : 1 + prefix_len (λ y. not (test y)) xs ≡ suc (prefix_len (λ y. not (test y)) xs) = omega arith in
          let next : 1 + prefix_len (λ y. not (test y)) xs + 1 ≡ suc (prefix_len (λ y. not (test y)) xs + 1) = omega arith in
          ap (in_first x) (later (omega (arith, some)))
          ∙ ap (λ k. take k (x ∷ xs) ∷ parted test (drop (prefix_len (λ y. not (test y)) xs + 1) xs)) (sym shift)
          ∙ ap (λ k. take (1 + prefix_len (λ y. not (test y)) xs) (x ∷ xs) ∷ parted test (drop k (x ∷ xs))) (sym next)

  -- one part alone, where none does
  pub only_part : (xs : List X) → length xs ≤ prefix_len (λ x. not (test x)) xs → parted test xs ≡ xs ∷ []
  only_part [] none = refl
  only_part (x ∷ xs) none = by (test x) (only_part xs) none
    where
      by : (b : Bool) → (length xs ≤ prefix_len (λ y. not (test y)) xs → parted test xs ≡ xs ∷ []) → length (x ∷ xs) ≤ cond (not b) (1 + prefix_len (λ y. not (test y)) xs) 0
          → cond b ([] ∷ parted test xs) (in_first x (parted test xs)) ≡ (x ∷ xs) ∷ []
      by true later none = absurd (omega (arith, none))
      by false later none = ap (in_first x) (later (omega (arith, none)))

-- a group of words
pub group_at : (ws : List (List ℕ)) (at n : ℕ) → at ≤ length ws → n ≡ prefix_len (λ w. not (is_and w)) (drop at ws)
    → groups_from ws at ≡ take n (drop at ws) ∷ groups_from ws (at + n + 1)
group_at ws at n inside is = here ∙ by (nat_lt n (length (drop at ws))) refl
  where
    rest : List (List ℕ)
    rest = drop at ws

    here : groups_from ws at ≡ parted is_and (drop at ws)
    here = rw (le-leb at (length ws) inside) refl

    by : (b : Bool) → nat_lt n (length (drop at ws)) ≡ b → parted is_and (drop at ws) ≡ take n (drop at ws) ∷ groups_from ws (at + n + 1)
    by true more =
        let some : n < length (drop at ws) = ltb-true n (length (drop at ws)) more in
        let all = length-drop at ws in
        let fits : at + n + 1 ≤ length ws = omega (arith, some, all, inside) in
        let sum : at + (n + 1) ≡ at + n + 1 = omega arith in
        first_part is_and (drop at ws) (subst (λ k. k < length (drop at ws)) is some)
        ∙ ap (λ k. take k (drop at ws) ∷ parted is_and (drop (k + 1) (drop at ws))) (sym is)
        ∙ ap (λ t. take n (drop at ws) ∷ parted is_and t) (drop-drop (n + 1) at ws ∙ ap (λ k. drop k ws) sum)
        ∙ ap (λ t. take n (drop at ws) ∷ t) (sym (rw (le-leb (at + n + 1) (length ws) fits) refl))
    by false more =
        let none : length (drop at ws) ≤ n = ltb-false n (length (drop at ws)) more in
        let all = length-drop at ws in
        let past : length ws < at + n + 1 = omega (arith, none, all, inside) in
        only_part is_and (drop at ws) (subst (λ k. length (drop at ws) ≤ k) is none)
        ∙ ap (λ t. t ∷ []) (sym (take_all n (drop at ws) none))
        ∙ ap (λ t. take n (drop at ws) ∷ t) (sym (rw (lt-leb (at + n + 1) (length ws) past) refl))

-- seen through references
pub prefix_len-map : {X Y : Type 0} (f : X → Y) (test : Y → Bool) (xs : List X) → prefix_len (λ x. test (f x)) xs ≡ prefix_len test (map f xs)
prefix_len-map f test [] = refl
prefix_len-map f test (x ∷ xs) = ap (λ n. cond (test (f x)) (1 + n) 0) (prefix_len-map f test xs)

pub groups_start : (ws : List (List ℕ)) → groups_from ws 0 ≡ parted is_and ws
groups_start ws = rw (le-leb 0 (length ws) (omega arith)) refl
