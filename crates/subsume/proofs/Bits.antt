-- Words as sets of bits, and tests that one or two items of a list pass.
use Rattle.std.proofs.Common.{◌≡◌, ◌↔◌, ℕ, zero, suc, ◌-◌, ◌^◌, ◌<◌, ◌≤◌, Bool, true, false, not, ◌&&◌, ◌||◌, max, List, [], ◌∷◌, ◌++◌, Option, inl, inr, refl, sym, ap, ◌∙◌, subst, arith}
use Rattle.std.specs.Prelude.{IsTrue, ◌==◌, bit_or, nat_eq}
use Rattle.std.specs.Int.{bit_at}
use Rattle.std.specs.List.{list_any}
use Rattle.std.specs.Option.{option_to_list}
use Rattle.std.proofs.lemmas.Bool.{cases_Bool, cases_lt, eqb-true, eq-eqb, ne_eqb, or_cases, and_parts, and_from, not-true, not_from_false, true≢false, lt-ltb}
use Rattle.std.proofs.lemmas.List.Folds.{list_any-append}
use Rattle.std.proofs.lemmas.Nat.Bits.{bit_at_or, bit_at-lt, bit_at-zero}
use Rattle.cub_proto.specs.declared.literal.Term.{Term}
use Rattle.cub_proto.specs.Truth.{has_bit}
use Rattle.cub_base.proofs.Bools.{or_intro_left, or_intro_right}
use Rattle.fin_dom.proofs.Masks.{same_bool, has_bit_from, bit_from, no_bit, pow_has, pow_only, low_has, low_below, first_bits}
use Rattle.subsume.specs.Marks.{twice, IsPart}

-- ---- words
pub power_bits : (n b : ℕ) → has_bit (2 ^ n) b ≡ (n == b)
power_bits n b = same_bool _ _ (λ h. eq-eqb n b (sym (pow_only n b h))) (λ h. subst (λ k. has_bit (2 ^ n) k ≡ true) (eqb-true n b h) (pow_has n))

pub no_bits : (b : ℕ) → has_bit 0 b ≡ false
no_bits b = elim (cases_Bool (has_bit 0 b)) [ inl h ↦ absurd (no_bit 0 b (bit_at-zero b) h) | inr h ↦ h ]

pub other_number : (n b : ℕ) → 64 ≤ n → b < 64 → false ≡ (n == b)
other_number n b above below = sym (ne_eqb n b (λ same. absurd (omega arith)))

pub either_bits : (a b c : ℕ) → has_bit (bit_or a b) c ≡ (has_bit a c || has_bit b c)
either_bits a b c =
    let value : bit_at (bit_or a b) c ≡ max (bit_at a c) (bit_at b c) = bit_at_or a b c in
    let la : bit_at a c < 2 = bit_at-lt a c in
    let lb : bit_at b c < 2 = bit_at-lt b c in
    same_bool _ _
    (λ h. let one : bit_at (bit_or a b) c ≡ 1 = bit_from _ _ h in
    elim (cases_lt (bit_at a c) 1) [
      | inl none ↦ let e : bit_at b c ≡ 1 = omega arith in or_intro_right (has_bit a c) (has_bit b c) (has_bit_from b c e)
      | inr some ↦ let e : bit_at a c ≡ 1 = omega arith in or_intro_left (has_bit a c) (has_bit b c) (has_bit_from a c e)
    ])
    (λ h. elim (or_cases (has_bit a c) (has_bit b c) h) [
      | inl first ↦ let e : bit_at a c ≡ 1 = bit_from a c first in let one : bit_at (bit_or a b) c ≡ 1 = omega arith in has_bit_from _ _ one
      | inr second ↦ let e : bit_at b c ≡ 1 = bit_from b c second in let one : bit_at (bit_or a b) c ≡ 1 = omega arith in has_bit_from _ _ one
    ])

pub all_bits : (b : ℕ) → b < 64 → has_bit 18446744073709551615 b ≡ true
all_bits b below = first_bits 64 b ∙ lt-ltb b 64 below

-- a word is a part of another where nothing of it lies beyond
pub part_is : (a b w : ℕ) → w < 2 ^ 64 → ((c : ℕ) → has_bit w c ≡ (has_bit a c && not (has_bit b c))) → IsTrue (nat_eq w 0) ↔ IsPart a b
part_is a b w fits bits = (forth, back)
  where
    forth : IsTrue (nat_eq w 0) → IsPart a b
    forth h c below inside = elim (cases_Bool (has_bit b c)) [
      | inl there ↦ there
      | inr none ↦
          let here : has_bit w c ≡ true = bits c ∙ and_from (has_bit a c) (not (has_bit b c)) inside (not_from_false (has_bit b c) none) in
          let zero_is : w ≡ 0 = eqb-true w 0 h in
          absurd (true≢false (sym here ∙ ap (λ x. has_bit x c) zero_is ∙ no_bits c))
    ]

    back : IsPart a b → IsTrue (nat_eq w 0)
    back part = elim (cases_lt 0 w) [
      | inl some ↦
          let parts = and_parts _ _ (sym (bits _) ∙ low_has w some fits) in
          absurd (true≢false (sym (part _ (low_below w some fits) parts.0) ∙ not-true _ parts.1))
      | inr none ↦ eq-eqb w 0 (omega arith)
    ]

-- ---- numbers of constructors
at_least_one : (n : ℕ) → 1 ≤ 2 ^ n
at_least_one zero = omega arith
at_least_one (suc n) = let h = at_least_one n in omega arith

pub one_constructor : (n : ℕ) → nat_eq (2 ^ n - 1) 1 ≡ (n == 1)
one_constructor zero = refl
one_constructor (suc zero) = refl
one_constructor (suc (suc n)) =
    let h = at_least_one n in
    ne_eqb (2 ^ suc (suc n) - 1) 1 (λ same. absurd (omega arith)) ∙ sym (ne_eqb (suc (suc n)) 1 (λ same. absurd (omega arith)))

-- ---- tests of lists with one more item
pub any_push : {A : Type 0} (test : A → Bool) (xs : List A) (x : A) → list_any test (xs ++ x ∷ []) ≡ (list_any test xs || test x)
any_push test xs x = list_any-append test xs (x ∷ []) ∙ ap (λ b. list_any test xs || b) (or_false (test x))
  where
    or_false : (b : Bool) → (b || false) ≡ b
    or_false true = refl
    or_false false = refl

and_or : (a b c : Bool) → (a && (b || c)) ≡ ((a && b) || (a && c))
and_or true b c = refl
and_or false b c = refl

or_mixed : (p q r s t : Bool) → (((p && q) || (p && t)) || (r || (s && t))) ≡ (((p && q) || r) || ((p || s) && t))
or_mixed true true r s t = refl
or_mixed true false true s true = refl
or_mixed true false true s false = refl
or_mixed true false false s true = refl
or_mixed true false false true false = refl
or_mixed true false false false false = refl
or_mixed false q r s t = refl

pub twice_push : {A : Type 0} (test : A → Bool) (xs : List A) (x : A) → twice test (xs ++ x ∷ []) ≡ (twice test xs || (list_any test xs && test x))
twice_push test [] x = and_false (test x)
  where
    and_false : (b : Bool) → ((b && false) || false) ≡ false
    and_false true = refl
    and_false false = refl
twice_push test (y ∷ ys) x =
    ap (λ b. (test y && b) || twice test (ys ++ x ∷ [])) (any_push test ys x)
    ∙ ap (λ b. (test y && (list_any test ys || test x)) || b) (twice_push test ys x)
    ∙ ap (λ b. b || (twice test ys || (list_any test ys && test x))) (and_or (test y) (list_any test ys) (test x))
    ∙ or_mixed (test y) (list_any test ys) (twice test ys) (list_any test ys) (test x)

pub any_word : {A : Type 0} (test : A → Bool) (xs : List A) (x : A) (old now : Bool) → old ≡ list_any test xs → now ≡ (old || test x) → now ≡ list_any test (xs ++ x ∷ [])
any_word test xs x old now is more = more ∙ ap (λ b. b || test x) is ∙ sym (any_push test xs x)

pub twice_word : {A : Type 0} (test : A → Bool) (xs : List A) (x : A) (old once now : Bool) → old ≡ twice test xs → once ≡ list_any test xs → now ≡ (old || (once && test x)) → now ≡ twice test (xs ++ x ∷ [])
twice_word test xs x old once now is one more =
    more ∙ ap (λ b. b || (once && test x)) is ∙ ap (λ b. twice test xs || (b && test x)) one ∙ sym (twice_push test xs x)

pub both_terms : (test : Term → Bool) (first second : Option Term) (terms : List Term) (x y : Bool) → option_to_list first ++ option_to_list second ≡ terms → x ≡ list_any test (option_to_list first) → y ≡ list_any test (option_to_list second)
    → (x || y) ≡ list_any test terms
both_terms test first second terms x y joined one other =
    ap (λ b. b || y) one ∙ ap (λ b. list_any test (option_to_list first) || b) other ∙ sym (list_any-append test (option_to_list first) (option_to_list second)) ∙ ap (λ ts. list_any test ts) joined
