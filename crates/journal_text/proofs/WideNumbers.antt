-- Numbers up to 2^128: what is written is read.
use Rattle.std.proofs.Common.{◌≡◌, ℕ, ◌==◌, get_or, ◌%◌, ◌+◌, ◌-◌, ◌^◌, ◌<◌, Bool, true, false, cond, ◌&&◌, nat_lt, min, List, [], ◌∷◌, length, Some, None, unwrap_or, refl, ap, ◌∙◌, arith, decimal, bytes_eq, ltb-true, lt-ltb}
use Rattle.std.specs.Str.Parse.{digits_value, AllDigits}
use Rattle.std.proofs.lemmas.Bool.{and_parts, and_from, ne_eqb}
use Rattle.std.proofs.lemmas.Fmt.{decimal_is_IsNumeral_wide, decimal_by_steps_wide}
use Rattle.std.proofs.lemmas.List.{length-append, get_or_append_left}
use Rattle.std.specs.List.{list_all}
use Rattle.std.specs.Char.{is_ascii_digit}
use Rattle.cube_text.specs.Form.{is_number}
use Rattle.cube_text.proofs.Words.{digits_are}
use Rattle.std.proofs.lemmas.Str.Parse.{digit_from_value}
use Rattle.text_lines.proofs.WordLaws.{AreWordBytes}
use Rattle.text_lines.proofs.NumberLaws.{bytes_same, same_bytes, between}
use Rattle.journal_text.specs.Numbers.{number_of}
use Rattle.journal_text.specs.Told.{piece_number}

pub within_wide : (n : ℕ) → n < 2 ^ 128 → n < 10 ^ 64
within_wide n fits = omega arith

-- a number that is written is read
pub wide_written : (n : ℕ) → n < 2 ^ 128 → number_of (decimal n) ≡ Some n
wide_written n fits = by (digits_value 10 (decimal n)) (decimal_is_IsNumeral_wide n (within_wide n fits)).1
  where
    by : (v : ℕ) → v ≡ n → cond (nat_lt v (2 ^ 128) && bytes_eq (decimal n) (decimal v)) (Some v) None ≡ Some n
    by v same =
        let test : (nat_lt n (2 ^ 128) && bytes_eq (decimal n) (decimal n)) ≡ true =
        and_from (nat_lt n (2 ^ 128)) (bytes_eq (decimal n) (decimal n)) (lt-ltb n (2 ^ 128) fits) (same_bytes (decimal n)) in
        rw same (rw test refl)

pub wide_is : (n : ℕ) (bytes : List ℕ) → n < 2 ^ 128 → bytes ≡ decimal n → number_of bytes ≡ Some n
wide_is n bytes fits is = ap number_of is ∙ wide_written n fits

-- where no number is written, none is read
pub wide_none : (bytes : List ℕ) → ((n : ℕ) → n < 2 ^ 128 → bytes ≡ decimal n → ⊥) → number_of bytes ≡ None
wide_none bytes h = by (nat_lt (digits_value 10 bytes) (2 ^ 128) && bytes_eq bytes (decimal (digits_value 10 bytes))) refl
  where
    by : (x : Bool) → (nat_lt (digits_value 10 bytes) (2 ^ 128) && bytes_eq bytes (decimal (digits_value 10 bytes))) ≡ x → cond x (Some (digits_value 10 bytes)) None ≡ None
    by true is =
        let parts = and_parts (nat_lt (digits_value 10 bytes) (2 ^ 128)) (bytes_eq bytes (decimal (digits_value 10 bytes))) is in
        absurd (h (digits_value 10 bytes) (ltb-true (digits_value 10 bytes) (2 ^ 128) parts.0) (bytes_same bytes (decimal (digits_value 10 bytes)) parts.1))
    by false is = refl

digits_are_words : (ds : List ℕ) → AllDigits 10 ds → AreWordBytes ds
digits_are_words [] h = tt
digits_are_words (c ∷ cs) h =
    let r = digit_from_value c h.0 in
    (between c 48 57 (omega (arith, r)) (omega (arith, r)) (omega arith) (omega arith), digits_are_words cs h.1)

pub wide_words : (n : ℕ) → n < 2 ^ 128 → AreWordBytes (decimal n)
wide_words n fits = digits_are_words (decimal n) (decimal_is_IsNumeral_wide n (within_wide n fits)).0.1

pub wide_some : (n : ℕ) → n < 2 ^ 128 → 0 < length (decimal n)
wide_some n fits = (decimal_is_IsNumeral_wide n (within_wide n fits)).0.0

pub piece_written : (n : ℕ) → n < 2 ^ 64 → piece_number (decimal (n + 1)) ≡ n
piece_written n fits =
    let wide : n + 1 < 2 ^ 128 = omega arith in
    ap (λ o. min (unwrap_or o 0 - 1) 18446744073709551615) (wide_written (n + 1) wide) ∙ omega arith

-- and has the form of a number
first_wide : (n : ℕ) → 0 < n → n < 10 ^ 64 → 48 < get_or (decimal n) 0 0
first_wide n some small = (decimal_by_steps_wide (λ m ds. (0 < length ds) × (0 < m → 48 < get_or ds 0 0)) (λ m l. (omega arith, λ a. omega arith))
    (λ m ds l h. (omega (arith, length-append ds ((48 + m % 10) ∷ [])), λ a. omega (arith, get_or_append_left ds ((48 + m % 10) ∷ []) 0 0 h.0, h.1 (omega arith)))) n small).1 some

no_leading : (ds : List ℕ) → 0 < length ds → list_all is_ascii_digit ds ≡ true → 48 < get_or ds 0 0 → is_number ds ≡ true
no_leading [] some all more = absurd (omega (arith, some))
no_leading (d ∷ []) some all more = (and_parts (is_ascii_digit d) true all).0
no_leading (d ∷ e ∷ ds) some all more =
    let parts = and_parts (is_ascii_digit d) (list_all is_ascii_digit (e ∷ ds)) all in
    let other : (d == 48) ≡ false = ne_eqb d 48 (λ is. absurd (omega (arith, is, more))) in
    rw (parts.0, other, parts.1) refl

pub wide_number : (n : ℕ) → n < 2 ^ 128 → 0 < n → is_number (decimal n) ≡ true
wide_number n fits some =
    no_leading (decimal n) (wide_some n fits) (digits_are (decimal n) (decimal_is_IsNumeral_wide n (within_wide n fits)).0.1) (first_wide n some (within_wide n fits))
