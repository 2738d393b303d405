-- What was written in a line is told by its words.
use Rattle.std.proofs.Common.{◌≡◌, ℕ, zero, suc, ◌+◌, ◌^◌, ◌<◌, Bool, true, false, nat_lt, min, cond, List, [], ◌∷◌, ◌++◌, length, Option, Some, None, unwrap_or, refl, ap, sym, subst, ◌∙◌, arith, append_assoc, append-nil, codes, decimal, bytes_eq}
use Rattle.std.specs.List.{list_all}
use Rattle.std.specs.Str.Parse.{AllDigits}
use Rattle.std.proofs.lemmas.Fmt.{decimal_is_IsNumeral}
use Rattle.std.proofs.lemmas.Str.Parse.{digit_from_value}
use Rattle.std.proofs.lemmas.Bool.{and_parts, ltb-true, cond-false}
use Rattle.cub_proto.specs.declared.protocol.Protocol.{Protocol}
use Rattle.cub_proto.specs.declared.budget.Budget.{Budget}
use Rattle.log_form.specs.declared.event.Added.{Added}
use Rattle.text_lines.specs.Word.{word, behind}
use Rattle.text_lines.specs.Number.{natural_of, counted}
use Rattle.text_lines.specs.Spelling.{processes_text}
use Rattle.text_lines.specs.Loose.{processes_in, behind_words}
use Rattle.text_lines.proofs.WordLaws.{first_word, behind_first}
use Rattle.text_lines.proofs.NumberLaws.{counted_written, natural_written, decimal_words, decimal_some, bytes_same}
use Rattle.text_lines.proofs.LooseLaws.{AreSmall, processes_read}
use Rattle.cube_text.specs.Text.{cube_text}
use Rattle.journal_text.specs.Text.{budget_text, item_word, item_text, expand_text, node_text, full_text}
use Rattle.journal_text.specs.Told.{piece_number, places_told, word_told, item_told, number_told, node_told}
use Rattle.journal_text.specs.Items.{IsItemLine, IsNode}
use Rattle.journal_text.proofs.WideNumbers.{wide_words, wide_some, piece_written}

-- places below 11
pub small_places : (is : List ℕ) → list_all (λ i. nat_lt i 11) is ≡ true → AreSmall is
small_places [] h = tt
small_places (i ∷ is) h =
    let parts = and_parts (nat_lt i 11) (list_all (λ j. nat_lt j 11) is) h in
    let inside = ltb-true i 11 parts.0 in
    (omega arith, small_places is parts.1)

-- a place is the number of a process that a byte holds
cut_processes : List ℕ → List ℕ
cut_processes [] = []
cut_processes (i ∷ is) = min i 255 ∷ cut_processes is

told_are : (n : ℕ) (t : List ℕ) → places_told n t ≡ cut_processes (processes_in n t)
unfolding cut_processes
told_are zero t = refl
told_are (suc n) t = ap (λ is. min (counted (word t)) 255 ∷ is) (told_are n (behind t))

uncut : (is : List ℕ) → list_all (λ i. nat_lt i 11) is ≡ true → cut_processes is ≡ is
unfolding cut_processes
uncut [] h = refl
uncut (i ∷ is) h =
    let parts = and_parts (nat_lt i 11) (list_all (λ j. nat_lt j 11) is) h in
    let inside = ltb-true i 11 parts.0 in
    let same : min i 255 ≡ i = omega arith in
    ap (λ j. j ∷ cut_processes is) same ∙ ap (λ js. i ∷ js) (uncut is parts.1)

blank_first : (n : ℕ) (t : List ℕ) → places_told n (32 ∷ t) ≡ places_told n t
blank_first zero t = refl
blank_first (suc n) t = refl

places_read : (is rest : List ℕ) → list_all (λ i. nat_lt i 11) is ≡ true → places_told (length is) (32 ∷ (processes_text is ++ rest)) ≡ is
places_read is rest h =
    blank_first (length is) (processes_text is ++ rest) ∙ told_are (length is) (processes_text is ++ rest)
    ∙ ap cut_processes (processes_read is rest (small_places is h)) ∙ uncut is h

-- ---- added cubes
module _ (p : Protocol) (a : Added) where
  abbrev pub behind_brackets : List ℕ
  behind_brackets = codes ": " ++ cube_text p a.cube

  abbrev pub behind_number : List ℕ
  behind_number = 32 ∷ (processes_text a.places ++ behind_brackets)

  pub item_open : (node : Option ℕ) → item_text p node a ≡ item_word node ++ (decimal (a.piece + 1) ++ behind_number)
  item_open node =
      append_assoc (item_word node ++ decimal (a.piece + 1) ++ codes " " ++ processes_text a.places) (codes ": ") (cube_text p a.cube)
      ∙ append_assoc (item_word node ++ decimal (a.piece + 1) ++ codes " ") (processes_text a.places) behind_brackets
      ∙ append_assoc (item_word node ++ decimal (a.piece + 1)) (codes " ") (processes_text a.places ++ behind_brackets)
      ∙ append_assoc (item_word node) (decimal (a.piece + 1)) behind_number

  module _ (early : a.piece < 2 ^ 64) where
    fits : a.piece + 1 < 2 ^ 128
    fits = omega arith

    digits : List ℕ
    digits = decimal (a.piece + 1)

    first_told : (node : Option ℕ) → word_told 1 (item_word node ++ (decimal (a.piece + 1) ++ behind_number)) ≡ decimal (a.piece + 1)
    first_told None = first_word (decimal (a.piece + 1)) behind_number (wide_words (a.piece + 1) fits) (wide_some (a.piece + 1) fits) refl
    first_told (Some n) = first_word (decimal (a.piece + 1)) behind_number (wide_words (a.piece + 1) fits) (wide_some (a.piece + 1) fits) refl

    behind_told : (node : Option ℕ) → behind_words 2 (item_word node ++ (decimal (a.piece + 1) ++ behind_number)) ≡ behind_number
    behind_told None = behind_first (decimal (a.piece + 1)) behind_number (wide_words (a.piece + 1) fits) (wide_some (a.piece + 1) fits) refl
    behind_told (Some n) = behind_first (decimal (a.piece + 1)) behind_number (wide_words (a.piece + 1) fits) (wide_some (a.piece + 1) fits) refl

    pub item_is_told : (node : Option ℕ) → length a.places ≡ a.cube.width → list_all (λ i. nat_lt i 11) a.places ≡ true → item_told a.cube (item_text p node a) ≡ a
    item_is_told node count small =
        let whole = item_word node ++ (decimal (a.piece + 1) ++ behind_number) in
        let piece : piece_number (word_told 1 whole) ≡ a.piece = ap piece_number (first_told node) ∙ piece_written a.piece early in
        let places : places_told a.cube.width (behind_words 2 whole) ≡ a.places =
        ap (places_told a.cube.width) (behind_told node) ∙ ap (λ n. places_told n behind_number) (sym count) ∙ places_read a.places behind_brackets small in
        ap (item_told a.cube) (item_open node) ∙ ap (λ n. record { piece = n; places = places_told a.cube.width (behind_words 2 whole); cube = a.cube }) piece
        ∙ ap (λ is. record { piece = a.piece; places = is; cube = a.cube }) places

pub item_unique : (p : Protocol) (node : Option ℕ) (line : List ℕ) (a : Added) → IsItemLine p node line a → item_told a.cube line ≡ a
item_unique p node line a t = ap (item_told a.cube) t.text ∙ item_is_told p a t.early node t.count t.small

-- ---- expansions
pub expand_is_told : (n : ℕ) → n < 2 ^ 32 → counted (word_told 1 (expand_text n)) ≡ n
expand_is_told n few =
    let fits : n + 1 < 2 ^ 64 = omega arith in
    ap (λ t. counted (word t)) (sym (append-nil (32 ∷ decimal (n + 1))))
    ∙ ap counted (first_word (decimal (n + 1)) [] (decimal_words (n + 1) fits) (decimal_some (n + 1) fits) tt) ∙ counted_written n (omega arith)

-- ---- closing lines of full logs
module _ (needed : ℕ) (early : needed < 2 ^ 64) where
  abbrev needs : List ℕ
  needs = codes " needs " ++ decimal needed

  needed_read : natural_of (word (behind needs)) ≡ Some needed
  needed_read =
      ap (λ t. natural_of (word t)) (sym (append-nil (32 ∷ decimal needed)))
      ∙ ap natural_of (first_word (decimal needed) [] (decimal_words needed early) (decimal_some needed early) tt) ∙ natural_written needed early

  full_open : (node : Option ℕ) → full_text node needed ≡ codes "full " ++ (node_text node ++ needs)
  full_open node =
      append_assoc (codes "full " ++ node_text node) (codes " needs ") (decimal needed) ∙ append_assoc (codes "full ") (node_text node) needs

  module _ (n : ℕ) (few : n < 2 ^ 32) where
    fits_node : n + 1 < 2 ^ 64
    fits_node = omega arith

    node_word : word_told 1 (codes "full " ++ (decimal (n + 1) ++ needs)) ≡ decimal (n + 1)
    node_word = first_word (decimal (n + 1)) needs (decimal_words (n + 1) fits_node) (decimal_some (n + 1) fits_node) refl

    behind_node : behind_words 2 (codes "full " ++ (decimal (n + 1) ++ needs)) ≡ needs
    behind_node = behind_first (decimal (n + 1)) needs (decimal_words (n + 1) fits_node) (decimal_some (n + 1) fits_node) refl

  pub needed_is_told : (node : Option ℕ) → IsNode node → number_told 3 (full_text node needed) ≡ needed
  needed_is_told None h = ap (number_told 3) (full_open None) ∙ ap (λ o. unwrap_or o 0) needed_read
  needed_is_told (Some n) h =
      ap (number_told 3) (full_open (Some n)) ∙ ap (λ t. unwrap_or (natural_of (word (behind t))) 0) (behind_node n h) ∙ ap (λ o. unwrap_or o 0) needed_read

  pub node_is_told : (node : Option ℕ) → IsNode node → node_told (full_text node needed) ≡ node
  node_is_told None h = ap node_told (full_open None)
  node_is_told (Some n) h =
      let read : counted (decimal (n + 1)) ≡ n = counted_written n (omega arith) in
      ap node_told (full_open (Some n)) ∙ ap (λ w. cond (bytes_eq w (codes "roots")) None (Some (counted w))) (node_word n h)
      ∙ cond-false (bytes_eq (decimal (n + 1)) (codes "roots")) None (Some (counted (decimal (n + 1)))) (no_roots n h) ∙ ap (λ i. Some i) read
    where
      no_roots : (n : ℕ) → n < 2 ^ 32 → bytes_eq (decimal (n + 1)) (codes "roots") ≡ false
      no_roots n few = by (bytes_eq (decimal (n + 1)) (codes "roots")) refl
        where
          by : (b : Bool) → bytes_eq (decimal (n + 1)) (codes "roots") ≡ b → b ≡ false
          by false is = refl
          by true is =
              let wide : n + 1 < 2 ^ 64 = omega arith in
              let same : decimal (n + 1) ≡ codes "roots" = bytes_same (decimal (n + 1)) (codes "roots") is in
              let all : AllDigits 10 (codes "roots") = subst (AllDigits 10) same (decimal_is_IsNumeral (n + 1) wide).0.1 in
              absurd (omega (arith, digit_from_value 114 all.0))

-- ---- the budget
module _ (b : Budget) where
  abbrev width_part : List ℕ
  width_part = 32 ∷ decimal b.width

  budget_open : budget_text b ≡ codes "budget " ++ (decimal b.cubes ++ width_part)
  budget_open = append_assoc (codes "budget " ++ decimal b.cubes) (codes " ") (decimal b.width) ∙ append_assoc (codes "budget ") (decimal b.cubes) width_part

  cubes_fit : b.cubes < 2 ^ 64
  cubes_fit = let few = b.few_cubes in omega arith

  width_fits : b.width < 2 ^ 64
  width_fits = let few = b.narrow in omega arith

  pub cubes_told : number_told 1 (budget_text b) ≡ b.cubes
  cubes_told =
      ap (number_told 1) budget_open
      ∙ ap (λ w. unwrap_or (natural_of w) 0) (first_word (decimal b.cubes) width_part (decimal_words b.cubes cubes_fit) (decimal_some b.cubes cubes_fit) refl)
      ∙ ap (λ o. unwrap_or o 0) (natural_written b.cubes cubes_fit)

  pub width_told : number_told 2 (budget_text b) ≡ b.width
  width_told =
      ap (number_told 2) budget_open
      ∙ ap (λ t. unwrap_or (natural_of (word t)) 0) (behind_first (decimal b.cubes) width_part (decimal_words b.cubes cubes_fit) (decimal_some b.cubes cubes_fit) refl ∙ sym (append-nil width_part))
      ∙ ap (λ w. unwrap_or (natural_of w) 0) (first_word (decimal b.width) [] (decimal_words b.width width_fits) (decimal_some b.width width_fits) tt)
      ∙ ap (λ o. unwrap_or o 0) (natural_written b.width width_fits)
