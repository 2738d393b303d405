-- Numbers: what is written is read.
use Rattle.std.proofs.Common.{◌≡◌, ℕ, zero, suc, ◌+◌, ◌-◌, ◌^◌, ◌<◌, ◌≤◌, Bool, true, false, not, cond, ◌&&◌, nat_lt, min, List, [], ◌∷◌, ◌++◌, length, Option, Some, None, unwrap_or, option_and_then, ℤ, pos, negsuc, neg_ℤ, refl, ap, sym, subst, ◌∙◌, arith, decimal, bytes_eq, ltb-true, lt-ltb, eq-eqb, ne_eqb}
use Rattle.std.specs.Str.Parse.{digits_value, AllDigits}
use Rattle.std.specs.Fmt.{signed_decimal}
use Rattle.std.proofs.lemmas.Bool.{and_parts, and_from, or_from, cond-true}
use Rattle.std.proofs.lemmas.Fmt.{decimal_is_IsNumeral}
use Rattle.std.proofs.lemmas.Str.Parse.{digit_from_value}
use Rattle.std.proofs.lemmas.Slice.Eq.{bytes_eq-Decides}
use Rattle.text_lines.specs.Word.{is_separator}
use Rattle.text_lines.specs.Number.{natural_of, negative, positive, integer_of, counted}
use Rattle.text_lines.proofs.WordLaws.{AreWordBytes}

pub bytes_same : (xs ys : List ℕ) → bytes_eq xs ys ≡ true → xs ≡ ys
bytes_same xs ys h = (bytes_eq-Decides xs ys).0 h

pub same_bytes : (xs : List ℕ) → bytes_eq xs xs ≡ true
same_bytes xs = (bytes_eq-Decides xs xs).1 refl

-- a number that is written is read
pub natural_written : (n : ℕ) → n < 2 ^ 64 → natural_of (decimal n) ≡ Some n
natural_written n fits = by (digits_value 10 (decimal n)) (decimal_is_IsNumeral n fits).1
  where
    by : (v : ℕ) → v ≡ n → cond (nat_lt v (2 ^ 64) && bytes_eq (decimal n) (decimal v)) (Some v) None ≡ Some n
    by v same =
        let test : (nat_lt n (2 ^ 64) && bytes_eq (decimal n) (decimal n)) ≡ true =
        and_from (nat_lt n (2 ^ 64)) (bytes_eq (decimal n) (decimal n)) (lt-ltb n (2 ^ 64) fits) (same_bytes (decimal n)) in
        rw same (rw test refl)

pub natural_is : (n : ℕ) (bytes : List ℕ) → n < 2 ^ 64 → bytes ≡ decimal n → natural_of bytes ≡ Some n
natural_is n bytes fits is = ap natural_of is ∙ natural_written n fits

-- where no number is written, none is read
pub natural_none : (bytes : List ℕ) → ((n : ℕ) → n < 2 ^ 64 → bytes ≡ decimal n → ⊥) → natural_of bytes ≡ None
natural_none bytes h = by (nat_lt v (2 ^ 64) && bytes_eq bytes (decimal v)) refl
  where
    v : ℕ
    v = digits_value 10 bytes

    by : (x : Bool) → (nat_lt (digits_value 10 bytes) (2 ^ 64) && bytes_eq bytes (decimal (digits_value 10 bytes))) ≡ x → cond x (Some (digits_value 10 bytes)) None ≡ None
    by true is =
        let parts = and_parts (nat_lt (digits_value 10 bytes) (2 ^ 64)) (bytes_eq bytes (decimal (digits_value 10 bytes))) is in
        absurd (h (digits_value 10 bytes) (ltb-true (digits_value 10 bytes) (2 ^ 64) parts.0) (bytes_same bytes (decimal (digits_value 10 bytes)) parts.1))
    by false is = refl

pub counted_written : (i : ℕ) → i ≤ 4294967295 → counted (decimal (i + 1)) ≡ i
counted_written i h =
    let fits : i + 1 < 2 ^ 64 = omega arith in
    ap (λ o. min (unwrap_or o 0 - 1) 4294967295) (natural_written (i + 1) fits) ∙ omega arith

not_separator : (c : ℕ) → (c ≡ 32 → ⊥) → (c ≡ 40 → ⊥) → (c ≡ 41 → ⊥) → (c ≡ 91 → ⊥) → (c ≡ 93 → ⊥) → (c ≡ 123 → ⊥) → (c ≡ 125 → ⊥) → (c ≡ 35 → ⊥) → (c ≡ 44 → ⊥) → (c ≡ 58 → ⊥) → (c ≡ 10 → ⊥) → is_separator c ≡ false
not_separator c h0 h1 h2 h3 h4 h5 h6 h7 h8 h9 h10 =
    or_from _ _ (or_from _ _ (or_from _ _ (or_from _ _ (or_from _ _ (or_from _ _ (or_from _ _ (or_from _ _ (or_from _ _ (or_from _ _
    (ne_eqb c 32 h0) (ne_eqb c 40 h1)) (ne_eqb c 41 h2)) (ne_eqb c 91 h3)) (ne_eqb c 93 h4)) (ne_eqb c 123 h5)) (ne_eqb c 125 h6)) (ne_eqb c 35 h7)) (ne_eqb c 44 h8)) (ne_eqb c 58 h9)) (ne_eqb c 10 h10)

pub between : (c low high : ℕ) → low ≤ c → c ≤ high → (44 < low) → (high < 58) → is_separator c ≡ false
between c low high l h a b =
    not_separator c (λ e. omega arith) (λ e. omega arith) (λ e. omega arith) (λ e. omega arith) (λ e. omega arith)
    (λ e. omega arith) (λ e. omega arith) (λ e. omega arith) (λ e. omega arith) (λ e. omega arith) (λ e. omega arith)

pub capital : (c : ℕ) → 58 < c → c < 91 → is_separator c ≡ false
capital c l h =
    not_separator c (λ e. omega arith) (λ e. omega arith) (λ e. omega arith) (λ e. omega arith) (λ e. omega arith)
    (λ e. omega arith) (λ e. omega arith) (λ e. omega arith) (λ e. omega arith) (λ e. omega arith) (λ e. omega arith)

pub small_letter : (c : ℕ) → 93 < c → c < 123 → is_separator c ≡ false
small_letter c l h =
    not_separator c (λ e. omega arith) (λ e. omega arith) (λ e. omega arith) (λ e. omega arith) (λ e. omega arith)
    (λ e. omega arith) (λ e. omega arith) (λ e. omega arith) (λ e. omega arith) (λ e. omega arith) (λ e. omega arith)

-- digits are bytes of a word
digits_are_words : (ds : List ℕ) → AllDigits 10 ds → AreWordBytes ds
digits_are_words [] h = tt
digits_are_words (c ∷ cs) h =
    let r = digit_from_value c h.0 in
    (between c 48 57 (omega (arith, r)) (omega (arith, r)) (omega arith) (omega arith), digits_are_words cs h.1)

pub decimal_words : (n : ℕ) → n < 2 ^ 64 → AreWordBytes (decimal n)
decimal_words n fits = digits_are_words (decimal n) (decimal_is_IsNumeral n fits).0.1

pub decimal_some : (n : ℕ) → n < 2 ^ 64 → 0 < length (decimal n)
decimal_some n fits = (decimal_is_IsNumeral n fits).0.0

-- integers
digits_no_minus : (ds : List ℕ) → AllDigits 10 ds → 0 < length ds → integer_of ds ≡ option_and_then positive (natural_of ds)
digits_no_minus [] h some = absurd (omega arith)
digits_no_minus (c ∷ cs) h some =
    let r = digit_from_value c h.0 in
    let differs = ne_eqb c 45 (λ e. omega (arith, r)) in
    rw differs refl

pub integer_positive : (n : ℕ) → n < 2 ^ 63 → integer_of (decimal n) ≡ Some (pos n)
integer_positive n fits =
    let wide : n < 2 ^ 64 = omega arith in
    let digits = decimal_is_IsNumeral n wide in
    digits_no_minus (decimal n) digits.0.1 digits.0.0 ∙ ap (option_and_then positive) (natural_written n wide) ∙ rw (lt-ltb n (2 ^ 63) fits) refl

pub integer_negative : (n : ℕ) → suc n < 2 ^ 63 → integer_of (45 ∷ decimal (suc n)) ≡ Some (negsuc n)
integer_negative n fits =
    let wide : suc n < 2 ^ 64 = omega arith in
    ap (option_and_then negative) (natural_written (suc n) wide)
    ∙ cond-true (nat_lt 0 (suc n) && nat_lt (suc n) (2 ^ 63)) (Some (negsuc n)) None
    (and_from (nat_lt 0 (suc n)) (nat_lt (suc n) (2 ^ 63)) (lt-ltb 0 (suc n) (omega arith)) (lt-ltb (suc n) (2 ^ 63) fits))
