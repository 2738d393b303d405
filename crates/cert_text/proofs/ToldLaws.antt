-- What was written in a cover line is told by its words.
use Rattle.std.proofs.Common.{◌≡◌, ℕ, zero, suc, ◌+◌, ◌^◌, ◌<◌, ◌≤◌, true, false, ◌&&◌, nat_lt, min, List, [], ◌∷◌, ◌++◌, length, Option, Some, None, refl, ap, sym, ◌∙◌, arith, append_assoc, append-nil, codes, decimal}
use Rattle.std.specs.Prelude.{slice_get, ◌==◌, nat_le}
use Rattle.std.specs.List.{list_all}
use Rattle.std.proofs.lemmas.Bool.{and_parts, ltb-true, leb-true, eqb-true}
use Rattle.cub_proto.specs.declared.protocol.Protocol.{Protocol}
use Rattle.cub_proto.specs.declared.cover.CoverLine.{CoverLine}
use Rattle.cub_cube.specs.declared.cube.Cube.{Cube}
use Rattle.text_lines.specs.Word.{word, behind}
use Rattle.text_lines.specs.Number.{counted}
use Rattle.text_lines.specs.Spelling.{processes_text}
use Rattle.text_lines.specs.Loose.{processes_in, behind_words}
use Rattle.text_lines.proofs.WordLaws.{first_word, behind_first}
use Rattle.text_lines.proofs.NumberLaws.{counted_written}
use Rattle.text_lines.proofs.LooseLaws.{AreSmall, processes_read}
use Rattle.cert_text.specs.Text.{by_text, cover_text}
use Rattle.cert_text.specs.Lawful.{are_apart, are_places, is_lawful_line}
use Rattle.cert_text.specs.Told.{piece_number, places_told, places_by, counted_at, cover_told}
use Rattle.cert_text.proofs.WideNumbers.{wide_words, wide_some, piece_written}

pub within_list : {X : Type 0} (xs : List X) (i : ℕ) (x : X) → slice_get xs i ≡ Some x → i < length xs
within_list [] i x h = cc
within_list (y ∷ ys) zero x h = omega arith
within_list (y ∷ ys) (suc i) x h = omega (arith, within_list ys i x h)

pub few_goals : (p : Protocol) → length p.goals ≤ 4096
few_goals p =
    let last = and_parts _ (nat_le (length p.transitions) 256) p.few in
    leb-true (length p.goals) 4096 (and_parts _ (nat_le (length p.goals) 4096) last.0).1

-- places below 11
pub small_places : (is : List ℕ) → list_all (λ i. nat_lt i 11) is ≡ true → AreSmall is
small_places [] h = tt
small_places (i ∷ is) h =
    let parts = and_parts (nat_lt i 11) (list_all (λ j. nat_lt j 11) is) h in
    let inside = ltb-true i 11 parts.0 in
    (omega arith, small_places is parts.1)

-- a place is the number of a process that a byte holds
cut_processes : List ℕ → List ℕ
cut_processes [] = []
cut_processes (i ∷ is) = min i 255 ∷ cut_processes is

told_are : (n : ℕ) (t : List ℕ) → places_told n t ≡ cut_processes (processes_in n t)
unfolding cut_processes
told_are zero t = refl
told_are (suc n) t = ap (λ is. min (counted (word t)) 255 ∷ is) (told_are n (behind t))

uncut : (is : List ℕ) → list_all (λ i. nat_lt i 11) is ≡ true → cut_processes is ≡ is
unfolding cut_processes
uncut [] h = refl
uncut (i ∷ is) h =
    let parts = and_parts (nat_lt i 11) (list_all (λ j. nat_lt j 11) is) h in
    let inside = ltb-true i 11 parts.0 in
    let same : min i 255 ≡ i = omega arith in
    ap (λ j. j ∷ cut_processes is) same ∙ ap (λ js. i ∷ js) (uncut is parts.1)

blank_first : (n : ℕ) (t : List ℕ) → places_told n (32 ∷ t) ≡ places_told n t
blank_first zero t = refl
blank_first (suc n) t = refl

-- the places of a cover line
places_read : (is : List ℕ) → list_all (λ i. nat_lt i 11) is ≡ true → places_told (length is) (32 ∷ processes_text is) ≡ is
places_read is h =
    blank_first (length is) (processes_text is) ∙ told_are (length is) (processes_text is)
    ∙ ap cut_processes (ap (processes_in (length is)) (sym (append-nil (processes_text is))) ∙ processes_read is [] (small_places is h)) ∙ uncut is h

pub record IsBy (cubes : List Cube) (by_cube : ℕ) (places : List ℕ) : Type 0 where
  pub inside : by_cube < length cubes
  pub small : list_all (λ i. nat_lt i 11) places ≡ true
  pub read : places_by (slice_get cubes by_cube) (32 ∷ processes_text places) ≡ places

pub is_by : (cubes : List Cube) (by_cube : ℕ) (places : List ℕ) → are_places (slice_get cubes by_cube) places ≡ true → IsBy cubes by_cube places
is_by cubes by_cube places h = by (slice_get cubes by_cube) refl h
  where
    by : (o : Option Cube) → slice_get cubes by_cube ≡ o → are_places o places ≡ true → IsBy cubes by_cube places
    by None is test = absurd (let e : false ≡ true = test in cc)
    by (Some c) is test =
        let all = and_parts (length places == c.width && list_all (λ i. nat_lt i 11) places) (are_apart places) test in
        let firsts = and_parts (length places == c.width) (list_all (λ i. nat_lt i 11) places) all.0 in
        record {
          inside = within_list cubes by_cube c is;
          small = firsts.1;
          read = ap (λ o. places_by o (32 ∷ processes_text places)) is
              ∙ ap (λ n. places_told n (32 ∷ processes_text places)) (sym (eqb-true (length places) c.width firsts.0)) ∙ places_read places firsts.1;
        }

module _ (by_cube : ℕ) (places : List ℕ) where
  abbrev listed : List ℕ
  listed = 32 ∷ processes_text places

  abbrev by_tail : List ℕ
  by_tail = codes " by " ++ (decimal (by_cube + 1) ++ listed)

  by_open : by_text by_cube places ≡ by_tail
  by_open =
      append_assoc (codes " by " ++ decimal (by_cube + 1)) (codes " ") (processes_text places)
      ∙ append_assoc (codes " by ") (decimal (by_cube + 1)) listed

  module _ (small : by_cube ≤ 4294967295) where
    fits : by_cube + 1 < 2 ^ 128
    fits = omega arith

    -- behind `by`
    number_by : counted (word (behind by_tail)) ≡ by_cube
    number_by =
        ap counted (first_word (decimal (by_cube + 1)) listed (wide_words (by_cube + 1) fits) (wide_some (by_cube + 1) fits) refl) ∙ counted_written by_cube small

    behind_by : behind (behind by_tail) ≡ listed
    behind_by = behind_first (decimal (by_cube + 1)) listed (wide_words (by_cube + 1) fits) (wide_some (by_cube + 1) fits) refl

    unsafe_is_told : (cubes : List Cube) (goal : ℕ) → goal ≤ 4294967295 → places_by (slice_get cubes by_cube) listed ≡ places
        → cover_told cubes (cover_text (CoverLine.Unsafe goal by_cube places)) ≡ CoverLine.Unsafe goal by_cube places
    unsafe_is_told cubes goal few read =
        let wide : goal + 1 < 2 ^ 128 = omega arith in
        let words = wide_words (goal + 1) wide in
        let some = wide_some (goal + 1) wide in
        let whole : List ℕ = codes "unsafe " ++ (decimal (goal + 1) ++ by_tail) in
        let opened : cover_text (CoverLine.Unsafe goal by_cube places) ≡ whole =
        append_assoc (codes "unsafe ") (decimal (goal + 1)) (by_text by_cube places) ∙ ap (λ t. codes "unsafe " ++ (decimal (goal + 1) ++ t)) by_open in
        let number : counted_at 1 whole ≡ goal = ap counted (first_word (decimal (goal + 1)) by_tail words some refl) ∙ counted_written goal few in
        let second : behind_words 2 whole ≡ by_tail = behind_first (decimal (goal + 1)) by_tail words some refl in
        let by_number : counted_at 3 whole ≡ by_cube = ap (λ t. counted (word (behind t))) second ∙ number_by in
        let last : behind_words 4 whole ≡ listed = ap (λ t. behind (behind t)) second ∙ behind_by in
        ap (cover_told cubes) opened
        ∙ ap (λ g. CoverLine.Unsafe g (counted_at 3 whole) (places_by (slice_get cubes (counted_at 3 whole)) (behind_words 4 whole))) number
        ∙ ap (λ b. CoverLine.Unsafe goal b (places_by (slice_get cubes b) (behind_words 4 whole))) by_number
        ∙ ap (λ t. CoverLine.Unsafe goal by_cube (places_by (slice_get cubes by_cube) t)) last ∙ ap (CoverLine.Unsafe goal by_cube) read

    piece_is_told : (cubes : List Cube) (cube piece : ℕ) → cube ≤ 4294967295 → piece < 2 ^ 64 → places_by (slice_get cubes by_cube) listed ≡ places
        → cover_told cubes (cover_text (CoverLine.Piece cube piece by_cube places)) ≡ CoverLine.Piece cube piece by_cube places
    piece_is_told cubes cube piece few early read =
        let wide : piece + 1 < 2 ^ 128 = omega arith in
        let words = wide_words (piece + 1) wide in
        let some = wide_some (piece + 1) wide in
        let cube_wide : cube + 1 < 2 ^ 128 = omega arith in
        let cube_words = wide_words (cube + 1) cube_wide in
        let cube_some = wide_some (cube + 1) cube_wide in
        let of_tail : List ℕ = codes " of cube " ++ (decimal (cube + 1) ++ by_tail) in
        let whole : List ℕ = codes "piece " ++ (decimal (piece + 1) ++ of_tail) in
        let opened : cover_text (CoverLine.Piece cube piece by_cube places) ≡ whole =
        append_assoc (codes "piece " ++ decimal (piece + 1) ++ codes " of cube ") (decimal (cube + 1)) (by_text by_cube places)
        ∙ append_assoc (codes "piece " ++ decimal (piece + 1)) (codes " of cube ") (decimal (cube + 1) ++ by_text by_cube places)
        ∙ append_assoc (codes "piece ") (decimal (piece + 1)) (codes " of cube " ++ (decimal (cube + 1) ++ by_text by_cube places))
        ∙ ap (λ t. codes "piece " ++ (decimal (piece + 1) ++ (codes " of cube " ++ (decimal (cube + 1) ++ t)))) by_open in
        let number : piece_number (word (behind_words 1 whole)) ≡ piece =
        ap piece_number (first_word (decimal (piece + 1)) of_tail words some refl) ∙ piece_written piece early in
        let second : behind_words 2 whole ≡ of_tail = behind_first (decimal (piece + 1)) of_tail words some refl in
        let cube_number : counted_at 4 whole ≡ cube =
        ap (λ t. counted (word (behind (behind t)))) second ∙ ap counted (first_word (decimal (cube + 1)) by_tail cube_words cube_some refl)
        ∙ counted_written cube few in
        let fifth : behind_words 5 whole ≡ by_tail =
        ap (λ t. behind (behind (behind t))) second ∙ behind_first (decimal (cube + 1)) by_tail cube_words cube_some refl in
        let by_number : counted_at 6 whole ≡ by_cube = ap (λ t. counted (word (behind t))) fifth ∙ number_by in
        let last : behind_words 7 whole ≡ listed = ap (λ t. behind (behind t)) fifth ∙ behind_by in
        ap (cover_told cubes) opened
        ∙ ap (λ k. CoverLine.Piece k (piece_number (word (behind_words 1 whole))) (counted_at 6 whole) (places_by (slice_get cubes (counted_at 6 whole)) (behind_words 7 whole))) cube_number
        ∙ ap (λ n. CoverLine.Piece cube n (counted_at 6 whole) (places_by (slice_get cubes (counted_at 6 whole)) (behind_words 7 whole))) number
        ∙ ap (λ b. CoverLine.Piece cube piece b (places_by (slice_get cubes b) (behind_words 7 whole))) by_number
        ∙ ap (λ t. CoverLine.Piece cube piece by_cube (places_by (slice_get cubes by_cube) t)) last ∙ ap (CoverLine.Piece cube piece by_cube) read

-- a cover line
pub cover_is_told : (p : Protocol) (cubes : List Cube) → length cubes < 2 ^ 32 → (l : CoverLine) → is_lawful_line p cubes l ≡ true
    → cover_told cubes (cover_text l) ≡ l
cover_is_told p cubes few (CoverLine.Unsafe goal by_cube places) h =
    let parts = and_parts (nat_lt goal (length p.goals)) (are_places (slice_get cubes by_cube) places) h in
    let goal_in = ltb-true goal (length p.goals) parts.0 in
    let b = is_by cubes by_cube places parts.1 in
    let by_in = b.inside in
    unsafe_is_told by_cube places (omega arith) cubes goal (omega (arith, few_goals p)) b.read
cover_is_told p cubes few (CoverLine.Piece cube piece by_cube places) h =
    let parts = and_parts (nat_lt cube (length cubes) && nat_lt piece (2 ^ 64)) (are_places (slice_get cubes by_cube) places) h in
    let firsts = and_parts (nat_lt cube (length cubes)) (nat_lt piece (2 ^ 64)) parts.0 in
    let cube_in = ltb-true cube (length cubes) firsts.0 in
    let b = is_by cubes by_cube places parts.1 in
    let by_in = b.inside in
    piece_is_told by_cube places (omega arith) cubes cube piece (omega arith) (ltb-true piece (2 ^ 64) firsts.1) b.read
