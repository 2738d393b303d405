-- Names, numbers and places as words.
use Rattle.std.proofs.Common.{◌≡◌, ℕ, zero, suc, ◌+◌, ◌-◌, ◌^◌, ◌<◌, ◌≤◌, true, false, not, ◌&&◌, ◌==◌, nat_le, nat_lt, inl, inr, ◌⊎◌, List, [], ◌∷◌, length, get_or, Some, refl, ap, sym, subst, ◌∙◌, arith, bytes_eq, codes, decimal}
use Rattle.std.specs.Prelude.{option_and_then}
use Rattle.std.specs.List.{list_all}
use Rattle.std.specs.Char.{is_ascii_digit}
use Rattle.std.specs.Str.Parse.{AllDigits}
use Rattle.std.proofs.lemmas.Bool.{and_parts, and_from, eqb-true, ne_eqb, le-leb, lt-ltb}
use Rattle.std.proofs.lemmas.Fmt.{decimal_is_IsNumeral, first_decimal, decimal_digit}
use Rattle.std.proofs.lemmas.Str.Parse.{digit_from_value}
use Rattle.cub_base.specs.Name.{is_name_start, is_name_byte, has_name_form, is_name, is_reserved, is_declarable}
use Rattle.cub_base.proofs.Bools.{true_or_false}
use Rattle.text_lines.specs.Word.{is_separator}
use Rattle.text_lines.specs.Spelling.{process_text}
use Rattle.text_lines.proofs.WordLaws.{AreWordBytes}
use Rattle.text_lines.proofs.NumberLaws.{decimal_words, decimal_some, natural_written}
use Rattle.text_lines.proofs.NameLaws.{name_is_word}
use Rattle.cube_text.specs.Form.{is_and, is_number, is_place}
use Rattle.cube_text.specs.Meaning.{counted_to, place_in}
use Rattle.cube_text.proofs.Splitting.{Free}

-- a byte of a word is no separator
pub apart : (b c : ℕ) → is_separator b ≡ false → is_separator c ≡ true → (b == c) ≡ false
apart b c h k = by (true_or_false (b == c))
  where
    by : ((b == c) ≡ true) ⊎ ((b == c) ≡ false) → (b == c) ≡ false
    by (inl same) = absurd (let is : b ≡ c = eqb-true b c same in let e : false ≡ true = sym h ∙ ap is_separator is ∙ k in cc)
    by (inr other) = other

pub free_of : (c : ℕ) → is_separator c ≡ true → (bs : List ℕ) → AreWordBytes bs → Free (λ b. b == c) bs
free_of c h [] w = tt
free_of c h (b ∷ bs) w = (apart b c w.0 h, free_of c h bs w.1)

-- a name: a word that begins as names do
pub record IsNamed (name : List ℕ) : Type 0 where
  pub first : ℕ
  pub rest : List ℕ
  pub is : name ≡ first ∷ rest
  pub start : is_name_start first ≡ true
  pub form : has_name_form name ≡ true
  pub word : AreWordBytes name

pub declarable_named : (name : List ℕ) → is_declarable name ≡ true → IsNamed name
declarable_named name h = by name form (name_is_word name h).0
  where
    form : has_name_form name ≡ true
    form =
        let named = (and_parts (is_name name) (not (is_reserved name)) h).0 in
        let front = (and_parts (nat_le (length name) 64 && has_name_form name) (not (bytes_eq name (codes "_"))) named).0 in
        (and_parts (nat_le (length name) 64) (has_name_form name) front).1

    by : (n : List ℕ) → has_name_form n ≡ true → AreWordBytes n → IsNamed n
    by [] f w = absurd (let e : false ≡ true = f in cc)
    by (c ∷ cs) f w = record { first = c; rest = cs; is = refl; start = (and_parts (is_name_start c) (list_all is_name_byte cs) f).0; form = f; word = w }

-- a byte at which no name begins
not_start : (c d : ℕ) → is_name_start c ≡ true → is_name_start d ≡ false → (c == d) ≡ false
not_start c d h k = by (true_or_false (c == d))
  where
    by : ((c == d) ≡ true) ⊎ ((c == d) ≡ false) → (c == d) ≡ false
    by (inl same) = absurd (let is : c ≡ d = eqb-true c d same in let e : true ≡ false = sym h ∙ ap is_name_start is ∙ k in cc)
    by (inr other) = other

-- what begins as a name is no place, no 0 and no `&&`
pub record BeginsAsName (bytes : List ℕ) : Type 0 where
  pub no_place : is_place bytes ≡ false
  pub no_zero : bytes_eq bytes (codes "0") ≡ false
  pub no_and : is_and bytes ≡ false

pub begins_as_name : (c : ℕ) (cs : List ℕ) → is_name_start c ≡ true → BeginsAsName (c ∷ cs)
begins_as_name c cs h = record {
  no_place = rw (not_start c 35 h refl) refl;
  no_zero = rw (not_start c 48 h refl) refl;
  no_and = rw (not_start c 38 h refl) refl;
}

leb_both : (a b c : ℕ) → a ≤ b → b ≤ c → (nat_le a b && nat_le b c) ≡ true
leb_both a b c h k = and_from (nat_le a b) (nat_le b c) (le-leb a b h) (le-leb b c k)

-- digits
pub digits_are : (ds : List ℕ) → AllDigits 10 ds → list_all is_ascii_digit ds ≡ true
digits_are [] h = refl
digits_are (c ∷ cs) h =
    let r = digit_from_value c h.0 in
    and_from (is_ascii_digit c) (list_all is_ascii_digit cs) (leb_both 48 c 57 (omega (arith, r)) (omega (arith, r))) (digits_are cs h.1)

no_leading : (ds : List ℕ) → 0 < length ds → list_all is_ascii_digit ds ≡ true → 48 < get_or ds 0 0 → is_number ds ≡ true
no_leading [] some all more = absurd (omega (arith, some))
no_leading (d ∷ []) some all more = (and_parts (is_ascii_digit d) true all).0
no_leading (d ∷ e ∷ ds) some all more =
    let parts = and_parts (is_ascii_digit d) (list_all is_ascii_digit (e ∷ ds)) all in
    let other : (d == 48) ≡ false = ne_eqb d 48 (λ is. absurd (omega (arith, is, more))) in
    rw (parts.0, other, parts.1) refl

pub number_written : (n : ℕ) → n < 2 ^ 64 → is_number (decimal n) ≡ true
number_written zero fits = subst (λ ds. is_number ds ≡ true) (sym (decimal_digit 0 (omega arith))) refl
number_written (suc n) fits =
    no_leading (decimal (suc n)) (decimal_some (suc n) fits) (digits_are (decimal (suc n)) (decimal_is_IsNumeral (suc n) fits).0.1) (first_decimal (suc n) (omega arith) fits)

-- `#1`
module _ (i : ℕ) (small : i < 256) where
  wide : i + 1 < 2 ^ 64
  wide = omega arith

  pub place_form : is_place (process_text i) ≡ true
  place_form = number_written (i + 1) wide

  pub place_free_of : (c : ℕ) → is_separator c ≡ true → (35 == c) ≡ false → Free (λ b. b == c) (process_text i)
  place_free_of c h k = (k, free_of c h (decimal (i + 1)) (decimal_words (i + 1) wide))

  pub place_read : (width : ℕ) → i < width → place_in width (process_text i) ≡ Some i
  place_read width inside =
      let both : (nat_lt 0 (i + 1) && nat_le (i + 1) width) ≡ true = and_from (nat_lt 0 (i + 1)) (nat_le (i + 1) width) (lt-ltb 0 (i + 1) (omega arith)) (le-leb (i + 1) width (omega (arith, inside))) in
      let back : i + 1 - 1 ≡ i = omega arith in
      ap (option_and_then (counted_to width)) (natural_written (i + 1) wide) ∙ rw both (ap Some back)
