-- Numbers up to 2^128: what is written is read.
use Rattle.std.proofs.Common.{◌≡◌, ℕ, ◌+◌, ◌-◌, ◌^◌, ◌<◌, Bool, true, false, cond, ◌&&◌, nat_lt, min, List, [], ◌∷◌, length, Some, None, unwrap_or, refl, ap, ◌∙◌, arith, decimal, bytes_eq, ltb-true, lt-ltb}
use Rattle.std.specs.Str.Parse.{digits_value, AllDigits}
use Rattle.std.proofs.lemmas.Bool.{and_parts, and_from}
use Rattle.std.proofs.lemmas.Fmt.{decimal_is_IsNumeral_wide}
use Rattle.std.proofs.lemmas.Str.Parse.{digit_from_value}
use Rattle.text_lines.proofs.WordLaws.{AreWordBytes}
use Rattle.text_lines.proofs.NumberLaws.{bytes_same, same_bytes, between}
use Rattle.cert_text.specs.Numbers.{number_of}
use Rattle.cert_text.specs.Told.{piece_number}

pub within_wide : (n : ℕ) → n < 2 ^ 128 → n < 10 ^ 64
within_wide n fits = omega arith

-- a number that is written is read
pub wide_written : (n : ℕ) → n < 2 ^ 128 → number_of (decimal n) ≡ Some n
wide_written n fits = by (digits_value 10 (decimal n)) (decimal_is_IsNumeral_wide n (within_wide n fits)).1
  where
    by : (v : ℕ) → v ≡ n → cond (nat_lt v (2 ^ 128) && bytes_eq (decimal n) (decimal v)) (Some v) None ≡ Some n
    by v same =
        let test : (nat_lt n (2 ^ 128) && bytes_eq (decimal n) (decimal n)) ≡ true =
        and_from (nat_lt n (2 ^ 128)) (bytes_eq (decimal n) (decimal n)) (lt-ltb n (2 ^ 128) fits) (same_bytes (decimal n)) in
        rw same (rw test refl)

pub wide_is : (n : ℕ) (bytes : List ℕ) → n < 2 ^ 128 → bytes ≡ decimal n → number_of bytes ≡ Some n
wide_is n bytes fits is = ap number_of is ∙ wide_written n fits

-- where no number is written, none is read
pub wide_none : (bytes : List ℕ) → ((n : ℕ) → n < 2 ^ 128 → bytes ≡ decimal n → ⊥) → number_of bytes ≡ None
wide_none bytes h = by (nat_lt (digits_value 10 bytes) (2 ^ 128) && bytes_eq bytes (decimal (digits_value 10 bytes))) refl
  where
    by : (x : Bool) → (nat_lt (digits_value 10 bytes) (2 ^ 128) && bytes_eq bytes (decimal (digits_value 10 bytes))) ≡ x → cond x (Some (digits_value 10 bytes)) None ≡ None
    by true is =
        let parts = and_parts (nat_lt (digits_value 10 bytes) (2 ^ 128)) (bytes_eq bytes (decimal (digits_value 10 bytes))) is in
        absurd (h (digits_value 10 bytes) (ltb-true (digits_value 10 bytes) (2 ^ 128) parts.0) (bytes_same bytes (decimal (digits_value 10 bytes)) parts.1))
    by false is = refl

digits_are_words : (ds : List ℕ) → AllDigits 10 ds → AreWordBytes ds
digits_are_words [] h = tt
digits_are_words (c ∷ cs) h =
    let r = digit_from_value c h.0 in
    (between c 48 57 (omega (arith, r)) (omega (arith, r)) (omega arith) (omega arith), digits_are_words cs h.1)

pub wide_words : (n : ℕ) → n < 2 ^ 128 → AreWordBytes (decimal n)
wide_words n fits = digits_are_words (decimal n) (decimal_is_IsNumeral_wide n (within_wide n fits)).0.1

pub wide_some : (n : ℕ) → n < 2 ^ 128 → 0 < length (decimal n)
wide_some n fits = (decimal_is_IsNumeral_wide n (within_wide n fits)).0.0

pub piece_written : (n : ℕ) → n < 2 ^ 64 → piece_number (decimal (n + 1)) ≡ n
piece_written n fits =
    let wide : n + 1 < 2 ^ 128 = omega arith in
    ap (λ o. min (unwrap_or o 0 - 1) 18446744073709551615) (wide_written (n + 1) wide) ∙ omega arith
