-- The names of levels and steps may be declared, and two with different numbers differ.
use Rattle.std.proofs.Common.{◌≡◌, ℕ, zero, suc, ◌+◌, ◌^◌, ◌<◌, ◌≤◌, Bool, true, false, not, ◌||◌, ◌&&◌, List, [], ◌∷◌, ◌++◌, length, map, refl, ap, sym, subst, ◌∙◌, arith, bytes_eq, codes, decimal, nat_le}
use Rattle.std.specs.List.{list_all, range_with_len}
use Rattle.std.specs.Int.{is_in_range}
use Rattle.std.specs.Char.{is_ascii_alphanumeric}
use Rattle.std.specs.Str.Parse.{AllDigits}
use Rattle.std.proofs.lemmas.Bool.{and_from}
use Rattle.std.proofs.lemmas.Bool.Decides.{nat_tests}
use Rattle.std.proofs.lemmas.Grind.{common_steps}
use Rattle.std.proofs.lemmas.Fmt.{decimal_is_IsNumeral, decimal_injective, length-decimal-le}
use Rattle.std.proofs.lemmas.Str.Parse.{digit_from_value}
use Rattle.cub_base.specs.Name.{is_name_byte, is_name, is_reserved, is_declarable, has_name_form}
use Rattle.sample_gen.specs.Sample.{level_name, step_name}

pub leb : (a b : ℕ) → a ≤ b → nat_le a b ≡ true
leb a b h = grind (arith, common_steps)

digit_is_byte : (c : ℕ) → 48 ≤ c → c ≤ 57 → is_name_byte c ≡ true
digit_is_byte c l h = rw (leb 48 c l, leb c 57 h) refl

digits_are_bytes : (ds : List ℕ) → AllDigits 10 ds → list_all is_name_byte ds ≡ true
digits_are_bytes [] h = refl
digits_are_bytes (c ∷ cs) h =
    let r = digit_from_value c h.0 in
    and_from (is_name_byte c) (list_all is_name_byte cs) (digit_is_byte c (omega (arith, r)) (omega (arith, r))) (digits_are_bytes cs h.1)

module _ (n : ℕ) (few : n < 100) where
  wide : n < 2 ^ 64
  wide = omega arith

  bytes : list_all is_name_byte (decimal n) ≡ true
  bytes = digits_are_bytes (decimal n) (decimal_is_IsNumeral n wide).0.1

  short : length (decimal n) ≤ 2
  short = length-decimal-le 2 n (omega arith) few wide

  pub level_declarable : is_declarable (level_name n) ≡ true
  level_declarable = and_from (is_name (level_name n)) (not (is_reserved (level_name n))) (rw (bytes, leb (suc (length (decimal n))) 64 (omega (arith, short))) refl) refl

  pub step_declarable : is_declarable (step_name n) ≡ true
  step_declarable = and_from (is_name (step_name n)) (not (is_reserved (step_name n))) (rw (bytes, leb (suc (suc (length (decimal n)))) 64 (omega (arith, short))) refl) refl

module _ (m n : ℕ) (m_few : m < 100) (n_few : n < 100) where
  same_number : decimal m ≡ decimal n → m ≡ n
  same_number = decimal_injective m n (omega arith) (omega arith)

  pub level_one : level_name m ≡ level_name n → m ≡ n
  level_one same = same_number cc

  same_next : decimal (m + 1) ≡ decimal (n + 1) → m ≡ n
  same_next same = let next = decimal_injective (m + 1) (n + 1) (omega arith) (omega arith) same in omega (arith, next)

  pub step_one : step_name (m + 1) ≡ step_name (n + 1) → m ≡ n
  step_one same = same_next cc
