-- What clap makes of a word that the reading takes as a name, a value or an option.
use Rattle.std.proofs.Common.{◌≡◌, ◌∙◌, ℕ, suc, ◌+◌, Bool, true, false, not, ◌==◌, ◌&&◌, ◌||◌, cond, List, [], ◌∷◌, length, take, drop, Option, Some, None, refl, ap, ap₂, sym, subst, arith}
use Rattle.std.specs.Prelude.{if◌then◌else◌, nat_le, nat_lt, option_map, option_and_then, unwrap_or}
use Rattle.std.specs.List.{list_all, position_or_len, before_first, after_first}
use Rattle.std.specs.Char.{is_ascii_digit}
use Rattle.std.specs.Str.{bytes_eq}
use Rattle.std.proofs.lemmas.Bool.{and_parts, eqb-true, ltb-true, ltb-false, lt-ltb, le-ltb}
use Rattle.std.proofs.lemmas.List.{take_all}
use Rattle.clap.specs.Lexer.{has_byte, long_of, long_of_rest, short_of, short_of_rest, strip_byte}
use Rattle.cub_words.specs.Words.{is_number, number_within, is_marked, name_part, value_part}
use Rattle.cub_lexer.specs.Number.{value_of}

-- a test that gave something held
test_held : {A : Type 0} (test : Bool) (x y : A) → (if test then Some x else None) ≡ Some y → test ≡ true
test_held true x y given = refl
test_held false x y given = cc

no_dash : (byte : ℕ) → is_ascii_digit byte ≡ true → (byte == 45) ≡ false
no_dash byte digit = go (byte == 45) refl
  where
    go : (b : Bool) → (byte == 45) ≡ b → b ≡ false
    go false e = refl
    go true e =
        let bad : is_ascii_digit 45 ≡ true = subst (λ (x : ℕ). is_ascii_digit x ≡ true) (eqb-true byte 45 e) digit in
        cc

-- a number begins with no dash
pub number_plain : (least greatest : ℕ) (word : List ℕ) (value : ℕ) → number_within least greatest word ≡ Some value → is_marked word ≡ false
number_plain least greatest [] value given = cc
number_plain least greatest (byte ∷ bytes) value given =
    let word : List ℕ = byte ∷ bytes in
    let front : Bool = is_number word && nat_le least (value_of word) in
    let held = test_held (front && nat_le (value_of word) greatest) (value_of word) value given in
    let number = (and_parts (is_number word) (nat_le least (value_of word)) (and_parts front (nat_le (value_of word) greatest) held).0).0 in
    let digits = (and_parts (nat_le 1 (length word) && nat_le (length word) 9) (list_all is_ascii_digit word) number).1 in
    no_dash byte (and_parts (is_ascii_digit byte) (list_all is_ascii_digit bytes) digits).0

-- a name or a value, as clap sees it
pub record IsPlainWord (word : List ℕ) : Type 0 where
  pub longer : bytes_eq word (45 ∷ 45 ∷ []) ≡ false
  pub long : long_of word ≡ None
  pub short : short_of word ≡ None

pub plain_word : (word : List ℕ) → is_marked word ≡ false → IsPlainWord word
plain_word [] plain = cc
plain_word (byte ∷ bytes) plain =
    let strip : strip_byte 45 (byte ∷ bytes) ≡ None = rw plain refl in
    record {
      longer = rw plain refl;
      long = ap (λ t. option_and_then long_of_rest (option_and_then (strip_byte 45) t)) strip;
      short = ap (option_and_then short_of_rest) strip;
    }

-- what stands before and behind the first equals sign
front : List ℕ → List ℕ
front [] = []
front (x ∷ xs) = if x == 61 then [] else x ∷ front xs

back : List ℕ → Option (List ℕ)
back [] = None
back (x ∷ xs) = if x == 61 then Some xs else back xs

abbrev sign : ℕ → Bool
sign x = x == 61

before_is : (xs : List ℕ) → before_first sign xs ≡ front xs
unfolding front
before_is [] = refl
before_is (x ∷ xs) = go (x == 61) (before_is xs)
  where
    go : (b : Bool) → before_first sign xs ≡ front xs → take (cond (not b) (1 + position_or_len sign xs) 0) (x ∷ xs) ≡ (if b then [] else x ∷ front xs)
    go true rest = refl
    go false rest = let e : 1 + position_or_len sign xs ≡ suc (position_or_len sign xs) = omega arith in rw e (ap (λ t. x ∷ t) rest)

after_is : (xs : List ℕ) → (if has_byte 61 xs then Some (after_first sign xs) else None) ≡ back xs
unfolding back
after_is [] = refl
after_is (x ∷ xs) = go (x == 61) (after_is xs)
  where
    go : (b : Bool) → (if has_byte 61 xs then Some (after_first sign xs) else None) ≡ back xs
        → (if b || has_byte 61 xs then Some (drop (cond (not b) (1 + position_or_len sign xs) 0 + 1) (x ∷ xs)) else None) ≡ (if b then Some xs else back xs)
    go true rest = refl
    go false rest = let e : 1 + position_or_len sign xs + 1 ≡ suc (position_or_len sign xs + 1) = omega arith in rw e rest

has_is : (xs : List ℕ) → has_byte 61 xs ≡ nat_lt (position_or_len sign xs) (length xs)
has_is [] = refl
has_is (x ∷ xs) = go (x == 61) (has_is xs)
  where
    shift : (n m : ℕ) → nat_lt n m ≡ nat_lt (1 + n) (suc m)
    shift n m = split (nat_lt n m) refl
      where
        split : (b : Bool) → nat_lt n m ≡ b → b ≡ nat_lt (1 + n) (suc m)
        split true e = sym (lt-ltb (1 + n) (suc m) (omega (arith, ltb-true n m e)))
        split false e = sym (le-ltb (1 + n) (suc m) (omega (arith, ltb-false n m e)))

    go : (b : Bool) → has_byte 61 xs ≡ nat_lt (position_or_len sign xs) (length xs)
        → (b || has_byte 61 xs) ≡ nat_lt (cond (not b) (1 + position_or_len sign xs) 0) (suc (length xs))
    go true rest = sym (lt-ltb 0 (suc (length xs)) (omega arith))
    go false rest = rest ∙ shift (position_or_len sign xs) (length xs)

name_is : (xs : List ℕ) → name_part xs ≡ front xs
name_is xs = split (nat_lt (position_or_len sign xs) (length xs)) refl
  where
    split : (b : Bool) → nat_lt (position_or_len sign xs) (length xs) ≡ b
        → take (unwrap_or (cond b (Some (position_or_len sign xs)) None) (length xs)) xs ≡ front xs
    split true e = before_is xs
    split false e = take_all (length xs) xs (omega arith) ∙ sym (take_all (position_or_len sign xs) xs (ltb-false (position_or_len sign xs) (length xs) e)) ∙ before_is xs

value_is : (xs : List ℕ) → value_part xs ≡ back xs
value_is xs = split (nat_lt (position_or_len sign xs) (length xs)) (has_is xs) (after_is xs)
  where
    split : (b : Bool) → has_byte 61 xs ≡ b → (if has_byte 61 xs then Some (after_first sign xs) else None) ≡ back xs
        → option_map (λ at. drop (at + 1) xs) (cond b (Some (position_or_len sign xs)) None) ≡ back xs
    split true e after = (rw e at after)
    split false e after = (rw e at after)

record Behind (byte : ℕ) (text word : List ℕ) : Type 0 where
  rest : List ℕ
  word_is : word ≡ byte ∷ rest
  front_is : front rest ≡ text
  back_is : back word ≡ back rest

behind : (byte : ℕ) (text word : List ℕ) → front word ≡ byte ∷ text → Behind byte text word
unfolding front back
behind byte text [] given = cc
behind byte text (x ∷ xs) given = go (x == 61) refl given
  where
    go : (b : Bool) → (x == 61) ≡ b → (if b then [] else x ∷ front xs) ≡ byte ∷ text → Behind byte text (x ∷ xs)
    go true e f = cc
    go false e f =
        let head : x ≡ byte = cc in
        record { rest = xs; word_is = ap (λ (y : ℕ). y ∷ xs) head; front_is = cc; back_is = rw e refl }

-- an option, as clap sees it
pub record IsOptionWord (word name : List ℕ) : Type 0 where
  pub longer : bytes_eq word (45 ∷ 45 ∷ []) ≡ false
  pub parted : long_of word ≡ Some (name, value_part word)

back_twice : (ys : List ℕ) → back (45 ∷ 45 ∷ ys) ≡ back ys
unfolding back
back_twice ys = refl

named_rest : (byte : ℕ) (name rest : List ℕ) → front rest ≡ byte ∷ name → IsOptionWord (45 ∷ 45 ∷ rest) (byte ∷ name)
unfolding front
named_rest byte name [] given = cc
named_rest byte name (x ∷ xs) given =
    let value : back (45 ∷ 45 ∷ x ∷ xs) ≡ back (x ∷ xs) = back_twice (x ∷ xs) in
    record {
      longer = refl;
      parted = ap₂ (λ n v. Some (n, v)) (before_is (x ∷ xs) ∙ given) (after_is (x ∷ xs) ∙ sym value ∙ sym (value_is (45 ∷ 45 ∷ x ∷ xs)));
    }

pub option_word : (byte : ℕ) (name word : List ℕ) → name_part word ≡ 45 ∷ 45 ∷ byte ∷ name → IsOptionWord word (byte ∷ name)
option_word byte name word given =
    let one = behind 45 (45 ∷ byte ∷ name) word (sym (name_is word) ∙ given) in
    let two = behind 45 (byte ∷ name) one.rest one.front_is in
    let word_is : word ≡ 45 ∷ 45 ∷ two.rest = one.word_is ∙ ap (λ (t : List ℕ). 45 ∷ t) two.word_is in
    subst (λ (t : List ℕ). IsOptionWord t (byte ∷ name)) (sym word_is) (named_rest byte name two.rest two.front_is)
