-- What is written in a line of a certificate has no line feed. A cube's line has none since it has the form of one.
use Rattle.std.proofs.Common.{◌≡◌, ℕ, ◌+◌, ◌^◌, ◌<◌, ◌≤◌, Bool, true, false, not, cond, ◌&&◌, ◌||◌, ◌==◌, inl, inr, ◌⊎◌, List, [], ◌∷◌, ◌++◌, length, Result, Ok, Err, refl, ap, sym, subst, ◌∙◌, arith, codes, decimal, bytes_eq, flat_map, nat_lt}
use Rattle.std.specs.Prelude.{slice_get}
use Rattle.std.specs.List.{list_all, join_by}
use Rattle.std.specs.Char.{is_ascii_digit}
use Rattle.std.proofs.lemmas.Bool.{and_parts, eqb-true, not-true, ltb-true}
use Rattle.cub_base.specs.Name.{is_name_start, is_name_byte, has_name_form}
use Rattle.cub_base.proofs.Bools.{true_or_false}
use Rattle.cub_proto.specs.declared.protocol.Protocol.{Protocol}
use Rattle.cub_proto.specs.declared.cover.CoverLine.{CoverLine}
use Rattle.cub_cube.specs.declared.cube.Cube.{Cube}
use Rattle.text_lines.specs.Spelling.{process_text, processes_text}
use Rattle.text_lines.proofs.LineLaws.{IsOneLine}
use Rattle.text_lines.proofs.LooseLaws.{AreSmall}
use Rattle.text_lines.proofs.NumberLaws.{bytes_same}
use Rattle.text_lines.proofs.OneLineLaws.{one_append, one_words, one_decimal, one_process}
use Rattle.cube_text.specs.declared.fault.CubeFault.{CubeFault}
use Rattle.cube_text.specs.declared.fault.CubeFault.TheVariants.{Form}
use Rattle.cube_text.specs.Form.{in_first, parted, words_of, is_and, before, onward, is_empty, is_number, is_integer, is_place, is_index, is_term, are_sides, is_integer_side, are_names, is_set, three_words, five_words, is_literal, is_true_word, are_literals, is_cube, has_form}
use Rattle.cube_text.specs.Meaning.{cube_in}
use Rattle.cube_text.specs.Reading.{reading, spelled}
use Rattle.cert_text.specs.Text.{version_text, count_text, by_text, cover_text}
use Rattle.cert_text.specs.Lawful.{are_places, is_lawful_line}
use Rattle.cert_text.proofs.WideNumbers.{wide_words}
use Rattle.cert_text.proofs.ToldLaws.{small_places, few_goals, is_by}

-- a test that a line feed does not pass
apart : (test : ℕ → Bool) → test 10 ≡ false → (b : ℕ) → test b ≡ true → (b == 10) ≡ false
apart test none b h = by (true_or_false (b == 10))
  where
    by : ((b == 10) ≡ true) ⊎ ((b == 10) ≡ false) → (b == 10) ≡ false
    by (inl same) = absurd (let is : b ≡ 10 = eqb-true b 10 same in let e : true ≡ false = sym h ∙ ap test is ∙ none in cc)
    by (inr other) = other

all_apart : (test : ℕ → Bool) → test 10 ≡ false → (bs : List ℕ) → list_all test bs ≡ true → IsOneLine bs
all_apart test none [] h = tt
all_apart test none (b ∷ bs) h =
    let parts = and_parts (test b) (list_all test bs) h in
    (apart test none b parts.0, all_apart test none bs parts.1)

-- that of each
abbrev Each : {X : Type 0} → (X → Type 0) → List X → Type 0
Each Q [] = Unit {0}
Each Q (x ∷ xs) = Q x × Each Q xs

line_from : (bs : List ℕ) → Each (λ b. (b == 10) ≡ false) bs → IsOneLine bs
line_from [] h = tt
line_from (b ∷ bs) h = (h.0, line_from bs h.1)

line_to : (bs : List ℕ) → IsOneLine bs → Each (λ b. (b == 10) ≡ false) bs
line_to [] h = tt
line_to (b ∷ bs) h = (h.0, line_to bs h.1)

module _ {X : Type 0} (test : X → Bool) (Q : X → Type 0) (between : (x : X) → test x ≡ true → Q x) where
  first_of : (x : X) (parts : List (List X)) → Each (Each Q) (in_first x parts) → Q x × Each (Each Q) parts
  first_of x [] h = (h.0.0, tt)
  first_of x (part ∷ parts) h = (h.0.0, (h.0.1, h.1))

  -- what holds in all parts holds in all
  joined : (xs : List X) → Each (Each Q) (parted test xs) → Each Q xs
  joined [] h = tt
  joined (x ∷ xs) h = by (test x) refl h (λ k. joined xs k)
    where
      by : (b : Bool) → test x ≡ b → Each (Each Q) (cond b ([] ∷ parted test xs) (in_first x (parted test xs)))
          → (Each (Each Q) (parted test xs) → Each Q xs) → Q x × Each Q xs
      by true is h later = (between x is, later h.1)
      by false is h later = let parts = first_of x (parted test xs) h in (parts.0, later parts.1)

-- the two sides of a byte
both_sides : (c : ℕ) (bs : List ℕ) → IsOneLine (before c bs) → IsOneLine (onward c bs) → IsOneLine bs
both_sides c [] h k = tt
both_sides c (b ∷ bs) h k = by (b == c) h k (λ u v. both_sides c bs u v)
  where
    by : (x : Bool) → IsOneLine (cond x [] (b ∷ before c bs)) → IsOneLine (cond x (b ∷ bs) (onward c bs))
        → (IsOneLine (before c bs) → IsOneLine (onward c bs) → IsOneLine bs) → IsOneLine (b ∷ bs)
    by true h k later = k
    by false h k later = (h.0, later h.1 k)

written : (w t : List ℕ) → bytes_eq w t ≡ true → IsOneLine t → IsOneLine w
written w t h one = subst IsOneLine (sym (bytes_same w t h)) one

number_one : (bs : List ℕ) → is_number bs ≡ true → IsOneLine bs
number_one [] h = tt
number_one (d ∷ []) h = (apart is_ascii_digit refl d h, tt)
number_one (d ∷ e ∷ ds) h =
    let parts = and_parts (is_ascii_digit d && not (d == 48)) (list_all is_ascii_digit (e ∷ ds)) h in
    let firsts = and_parts (is_ascii_digit d) (not (d == 48)) parts.0 in
    (apart is_ascii_digit refl d firsts.0, all_apart is_ascii_digit refl (e ∷ ds) parts.1)

integer_one : (bs : List ℕ) → is_integer bs ≡ true → IsOneLine bs
integer_one [] h = tt
integer_one (b ∷ bs) h = by (b == 45) refl h
  where
    by : (x : Bool) → (b == 45) ≡ x → cond x (is_number bs && not (bytes_eq bs (codes "0"))) (is_number (b ∷ bs)) ≡ true → IsOneLine (b ∷ bs)
    by true is k = (apart (λ x. x == 45) refl b is, number_one bs (and_parts (is_number bs) (not (bytes_eq bs (codes "0"))) k).0)
    by false is k = number_one (b ∷ bs) k

place_one : (bs : List ℕ) → is_place bs ≡ true → IsOneLine bs
place_one [] h = tt
place_one (b ∷ bs) h =
    let parts = and_parts (b == 35) (is_number bs) h in
    (apart (λ x. x == 35) refl b parts.0, number_one bs parts.1)

index_one : (bs : List ℕ) → is_index bs ≡ true → IsOneLine bs
index_one [] h = tt
index_one (b ∷ bs) h =
    let parts = and_parts (b == 91 && is_place (before 93 bs)) (bytes_eq (onward 93 bs) (codes "]")) h in
    let firsts = and_parts (b == 91) (is_place (before 93 bs)) parts.0 in
    (apart (λ x. x == 91) refl b firsts.0, both_sides 93 bs (place_one (before 93 bs) firsts.1) (written (onward 93 bs) (codes "]") parts.1 (refl, tt)))

name_one : (bs : List ℕ) → has_name_form bs ≡ true → IsOneLine bs
name_one [] h = tt
name_one (b ∷ bs) h =
    let parts = and_parts (is_name_start b) (list_all is_name_byte bs) h in
    (apart is_name_start refl b parts.0, all_apart is_name_byte refl bs parts.1)

empty_one : (bs : List ℕ) → is_empty bs ≡ true → IsOneLine bs
empty_one [] h = tt
empty_one (b ∷ bs) h = absurd (let e : false ≡ true = h in cc)

either : (a b : Bool) → (a || b) ≡ true → (a ≡ true) ⊎ (b ≡ true)
either true b h = inl refl
either false b h = inr h

term_one : (w : List ℕ) → is_term w ≡ true → IsOneLine w
term_one w h = both_sides 91 w (name_one (before 91 w) parts.0) (by (either (is_empty (onward 91 w)) (is_index (onward 91 w)) parts.1))
  where
    parts : (has_name_form (before 91 w) ≡ true) × ((is_empty (onward 91 w) || is_index (onward 91 w)) ≡ true)
    parts = and_parts (has_name_form (before 91 w)) (is_empty (onward 91 w) || is_index (onward 91 w)) h

    by : (is_empty (onward 91 w) ≡ true) ⊎ (is_index (onward 91 w) ≡ true) → IsOneLine (onward 91 w)
    by (inl e) = empty_one (onward 91 w) e
    by (inr e) = index_one (onward 91 w) e

sides_one : (a b : List ℕ) → are_sides a b ≡ true → IsOneLine a × IsOneLine b
sides_one a b h = by (either (is_term a && (is_term b || is_place b)) (is_place a && is_place b) h)
  where
    right : (is_term b ≡ true) ⊎ (is_place b ≡ true) → IsOneLine b
    right (inl e) = term_one b e
    right (inr e) = place_one b e

    by : ((is_term a && (is_term b || is_place b)) ≡ true) ⊎ ((is_place a && is_place b) ≡ true) → IsOneLine a × IsOneLine b
    by (inl e) = let parts = and_parts (is_term a) (is_term b || is_place b) e in (term_one a parts.0, right (either (is_term b) (is_place b) parts.1))
    by (inr e) = let parts = and_parts (is_place a) (is_place b) e in (place_one a parts.0, place_one b parts.1)

integer_side_one : (w : List ℕ) → is_integer_side w ≡ true → IsOneLine w
integer_side_one w h = by (either (bytes_eq w (codes "0")) (is_term w) h)
  where
    by : (bytes_eq w (codes "0") ≡ true) ⊎ (is_term w ≡ true) → IsOneLine w
    by (inl e) = written w (codes "0") e (refl, tt)
    by (inr e) = term_one w e

all_names : (ws : List (List ℕ)) → list_all has_name_form ws ≡ true → Each (Each (λ b. (b == 10) ≡ false)) ws
all_names [] h = tt
all_names (w ∷ ws) h = let parts = and_parts (has_name_form w) (list_all has_name_form ws) h in (line_to w (name_one w parts.0), all_names ws parts.1)

names_one : (bs : List ℕ) → are_names bs ≡ true → IsOneLine bs
names_one bs h = by (either (is_empty bs) (list_all has_name_form (parted (λ b. b == 44) bs)) h)
  where
    by : (is_empty bs ≡ true) ⊎ (list_all has_name_form (parted (λ b. b == 44) bs) ≡ true) → IsOneLine bs
    by (inl e) = empty_one bs e
    by (inr e) =
        line_from bs (joined (λ b. b == 44) (λ b. (b == 10) ≡ false) (λ b is. apart (λ x. x == 44) refl b is) bs
        (all_names (parted (λ b. b == 44) bs) e))

set_one : (bs : List ℕ) → is_set bs ≡ true → IsOneLine bs
set_one [] h = tt
set_one (b ∷ bs) h =
    let parts = and_parts (b == 123 && are_names (before 125 bs)) (bytes_eq (onward 125 bs) (codes "}")) h in
    let firsts = and_parts (b == 123) (are_names (before 125 bs)) parts.0 in
    (apart (λ x. x == 123) refl b firsts.0, both_sides 125 bs (names_one (before 125 bs) firsts.1) (written (onward 125 bs) (codes "}") parts.1 (refl, tt)))

three_one : (a op b : List ℕ) → three_words a op b ≡ true → Each IsOneLine (a ∷ op ∷ b ∷ [])
three_one a op b h = by (either ((bytes_eq op (codes "=") || bytes_eq op (codes "<>")) && are_sides a b) (bytes_eq op (codes "in") && is_term a && is_set b) h)
  where
    sign : (bytes_eq op (codes "=") ≡ true) ⊎ (bytes_eq op (codes "<>") ≡ true) → IsOneLine op
    sign (inl e) = written op (codes "=") e (refl, tt)
    sign (inr e) = written op (codes "<>") e (refl, (refl, tt))

    by : (((bytes_eq op (codes "=") || bytes_eq op (codes "<>")) && are_sides a b) ≡ true) ⊎ ((bytes_eq op (codes "in") && is_term a && is_set b) ≡ true)
        → Each IsOneLine (a ∷ op ∷ b ∷ [])
    by (inl e) =
        let parts = and_parts (bytes_eq op (codes "=") || bytes_eq op (codes "<>")) (are_sides a b) e in
        let sides = sides_one a b parts.1 in
        (sides.0, (sign (either (bytes_eq op (codes "=")) (bytes_eq op (codes "<>")) parts.0), (sides.1, tt)))
    by (inr e) =
        let parts = and_parts (bytes_eq op (codes "in") && is_term a) (is_set b) e in
        let firsts = and_parts (bytes_eq op (codes "in")) (is_term a) parts.0 in
        (term_one a firsts.1, (written op (codes "in") firsts.0 (refl, (refl, tt)), (set_one b parts.1, tt)))

five_one : (a minus b most bound : List ℕ) → five_words a minus b most bound ≡ true → Each IsOneLine (a ∷ minus ∷ b ∷ most ∷ bound ∷ [])
five_one a minus b most bound h =
    let last = and_parts (bytes_eq minus (codes "-") && bytes_eq most (codes "<=") && is_integer_side a && is_integer_side b) (is_integer bound) h in
    let fourth = and_parts (bytes_eq minus (codes "-") && bytes_eq most (codes "<=") && is_integer_side a) (is_integer_side b) last.0 in
    let third = and_parts (bytes_eq minus (codes "-") && bytes_eq most (codes "<=")) (is_integer_side a) fourth.0 in
    let firsts = and_parts (bytes_eq minus (codes "-")) (bytes_eq most (codes "<=")) third.0 in (
      integer_side_one a third.1,
      (
        written minus (codes "-") firsts.0 (refl, tt),
        (
          integer_side_one b fourth.1,
          (written most (codes "<=") firsts.1 (refl, (refl, tt)), (integer_one bound last.1, tt)),
        ),
      ),
    )

literal_one : (ws : List (List ℕ)) → is_literal ws ≡ true → Each IsOneLine ws
literal_one [] h = tt
literal_one (a ∷ []) h = absurd (let e : false ≡ true = h in cc)
literal_one (a ∷ b ∷ []) h = absurd (let e : false ≡ true = h in cc)
literal_one (a ∷ op ∷ b ∷ []) h = three_one a op b h
literal_one (a ∷ b ∷ c ∷ d ∷ []) h = absurd (let e : false ≡ true = h in cc)
literal_one (a ∷ minus ∷ b ∷ most ∷ bound ∷ []) h = five_one a minus b most bound h
literal_one (a ∷ b ∷ c ∷ d ∷ e ∷ f ∷ gs) h = absurd (let e : false ≡ true = h in cc)

all_literals : (groups : List (List (List ℕ))) → list_all is_literal groups ≡ true → Each (Each IsOneLine) groups
all_literals [] h = tt
all_literals (g ∷ gs) h = let parts = and_parts (is_literal g) (list_all is_literal gs) h in (literal_one g parts.0, all_literals gs parts.1)

true_one : (ws : List (List ℕ)) → is_true_word ws ≡ true → Each IsOneLine ws
true_one [] h = tt
true_one (w ∷ []) h = (written w (codes "true") h (refl, (refl, (refl, (refl, tt)))), tt)
true_one (w ∷ v ∷ vs) h = absurd (let e : false ≡ true = h in cc)

literals_one : (ws : List (List ℕ)) → are_literals ws ≡ true → Each IsOneLine ws
literals_one ws h = by (either (is_true_word ws) (list_all is_literal (parted is_and ws)) h)
  where
    by : (is_true_word ws ≡ true) ⊎ (list_all is_literal (parted is_and ws) ≡ true) → Each IsOneLine ws
    by (inl e) = true_one ws e
    by (inr e) = joined is_and IsOneLine (λ w is. written w (codes "&&") is (refl, (refl, tt))) ws (all_literals (parted is_and ws) e)

cube_words_one : (ws : List (List ℕ)) → is_cube ws ≡ true → Each IsOneLine ws
cube_words_one [] h = tt
cube_words_one (c ∷ []) h = absurd (let e : false ≡ true = h in cc)
cube_words_one (c ∷ width ∷ ws) h =
    let last = and_parts (bytes_eq c (codes "cube") && is_number (before 58 width) && bytes_eq (onward 58 width) (codes ":")) (are_literals ws) h in
    let third = and_parts (bytes_eq c (codes "cube") && is_number (before 58 width)) (bytes_eq (onward 58 width) (codes ":")) last.0 in
    let firsts = and_parts (bytes_eq c (codes "cube")) (is_number (before 58 width)) third.0 in (
      written c (codes "cube") firsts.0 (refl, (refl, (refl, (refl, tt)))),
      (both_sides 58 width (number_one (before 58 width) firsts.1) (written (onward 58 width) (codes ":") third.1 (refl, tt)), literals_one ws last.1),
    )

to_each : (ws : List (List ℕ)) → Each IsOneLine ws → Each (Each (λ b. (b == 10) ≡ false)) ws
to_each [] h = tt
to_each (w ∷ ws) h = (line_to w h.0, to_each ws h.1)

-- what reads as a cube has no line feed
pub one_cube : (p : Protocol) (widest : ℕ) (text : List ℕ) (c : Cube) → reading p widest text ≡ Ok c → IsOneLine text
one_cube p widest text c h = by (has_form text) refl h
  where
    by : (b : Bool) → has_form text ≡ b → cond {A = Result Cube CubeFault} b (spelled p text (cube_in p widest (words_of text))) (Err Form) ≡ Ok c → IsOneLine text
    by true form k =
        line_from text (joined (λ b. b == 32) (λ b. (b == 10) ≡ false) (λ b is. apart (λ x. x == 32) refl b is) text
        (to_each (words_of text) (cube_words_one (words_of text) form)))
    by false form k = absurd (let e : ◌≡◌ {A = Result Cube CubeFault} (Err Form) (Ok c) = k in cc)

-- the other lines
one_test : (xs : List ℕ) → list_all (λ b. not (b == 10)) xs ≡ true → IsOneLine xs
one_test [] h = tt
one_test (x ∷ xs) h =
    let parts = and_parts (not (x == 10)) (list_all (λ b. not (b == 10)) xs) h in
    (not-true (x == 10) parts.0, one_test xs parts.1)

pub one_safe : IsOneLine (codes "SAFE")
one_safe = one_test (codes "SAFE") refl

pub one_end : IsOneLine (codes "end")
one_end = one_test (codes "end") refl

pub one_version : (two : Bool) → IsOneLine (version_text two)
one_version true = one_test (version_text true) refl
one_version false = one_test (version_text false) refl

pub one_count : (n : ℕ) → n < 2 ^ 64 → IsOneLine (count_text (decimal n))
one_count n few = one_append (codes "cubes ") (decimal n) (one_test (codes "cubes ") refl) (one_decimal n few)

others_one : (is : List ℕ) → AreSmall is → IsOneLine (flat_map (λ i. (32 ∷ []) ++ process_text i) is)
others_one [] small = tt
others_one (i ∷ is) small =
    one_append ((32 ∷ []) ++ process_text i) (flat_map (λ j. (32 ∷ []) ++ process_text j) is) (refl, one_process i small.0) (others_one is small.1)

one_processes : (is : List ℕ) → AreSmall is → IsOneLine (processes_text is)
one_processes [] small = (refl, (refl, tt))
one_processes (i ∷ is) small = (
  refl,
  one_append (join_by process_text (32 ∷ []) (i ∷ is)) (41 ∷ [])
      (one_append (process_text i) (flat_map (λ j. (32 ∷ []) ++ process_text j) is) (one_process i small.0) (others_one is small.1)) (refl, tt),
)

one_by : (by_cube : ℕ) (places : List ℕ) → by_cube ≤ 4294967295 → list_all (λ i. nat_lt i 11) places ≡ true → IsOneLine (by_text by_cube places)
one_by by_cube places few small =
    one_append (codes " by " ++ decimal (by_cube + 1) ++ codes " ") (processes_text places)
    (one_append (codes " by " ++ decimal (by_cube + 1)) (codes " ")
    (one_append (codes " by ") (decimal (by_cube + 1)) (one_test (codes " by ") refl) (one_decimal (by_cube + 1) (omega arith))) (refl, tt))
    (one_processes places (small_places places small))

-- a cover line
pub one_cover : (p : Protocol) (cubes : List Cube) → length cubes < 2 ^ 32 → (l : CoverLine) → is_lawful_line p cubes l ≡ true → IsOneLine (cover_text l)
one_cover p cubes few (CoverLine.Unsafe goal by_cube places) h =
    let parts = and_parts (nat_lt goal (length p.goals)) (are_places (slice_get cubes by_cube) places) h in
    let goal_in = ltb-true goal (length p.goals) parts.0 in
    let b = is_by cubes by_cube places parts.1 in
    let by_in = b.inside in
    one_append (codes "unsafe " ++ decimal (goal + 1)) (by_text by_cube places)
    (one_append (codes "unsafe ") (decimal (goal + 1)) (one_test (codes "unsafe ") refl) (one_decimal (goal + 1) (omega (arith, few_goals p))))
    (one_by by_cube places (omega arith) b.small)
one_cover p cubes few (CoverLine.Piece cube piece by_cube places) h =
    let parts = and_parts (nat_lt cube (length cubes) && nat_lt piece (2 ^ 64)) (are_places (slice_get cubes by_cube) places) h in
    let firsts = and_parts (nat_lt cube (length cubes)) (nat_lt piece (2 ^ 64)) parts.0 in
    let cube_in = ltb-true cube (length cubes) firsts.0 in
    let early = ltb-true piece (2 ^ 64) firsts.1 in
    let b = is_by cubes by_cube places parts.1 in
    let by_in = b.inside in
    one_append (codes "piece " ++ decimal (piece + 1) ++ codes " of cube " ++ decimal (cube + 1)) (by_text by_cube places)
    (one_append (codes "piece " ++ decimal (piece + 1) ++ codes " of cube ") (decimal (cube + 1))
    (one_append (codes "piece " ++ decimal (piece + 1)) (codes " of cube ")
    (one_append (codes "piece ") (decimal (piece + 1)) (one_test (codes "piece ") refl) (one_words (decimal (piece + 1)) (wide_words (piece + 1) (omega arith))))
    (one_test (codes " of cube ") refl)) (one_decimal (cube + 1) (omega arith)))
    (one_by by_cube places (omega arith) b.small)
