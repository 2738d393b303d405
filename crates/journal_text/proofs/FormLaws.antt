-- The line of an added cube has its form, and what stands behind its brackets is the text of the cube.
use Rattle.std.proofs.Common.{◌≡◌, ℕ, ◌+◌, ◌^◌, ◌<◌, true, false, ◌||◌, ◌==◌, nat_lt, List, [], ◌∷◌, ◌++◌, map, flat_map, drop, Option, Some, None, refl, ap, sym, ◌∙◌, arith, append_assoc, append-nil, codes, decimal}
use Rattle.std.specs.List.{list_all, join_by}
use Rattle.std.proofs.lemmas.Bool.{and_parts, and_from, ltb-true, cond-true}
use Rattle.cub_proto.specs.declared.protocol.Protocol.{Protocol}
use Rattle.log_form.specs.declared.event.Added.{Added}
use Rattle.text_lines.specs.Word.{is_separator}
use Rattle.text_lines.specs.Spelling.{process_text, processes_text}
use Rattle.cube_text.specs.Form.{words_of, before, onward, is_empty, is_place}
use Rattle.cube_text.specs.Text.{cube_text}
use Rattle.cube_text.specs.Reading.{reading}
use Rattle.cube_text.proofs.Splitting.{Free, free_append, parted_free, parted_at, before_at, onward_at, is_blank, three}
use Rattle.cube_text.proofs.Words.{free_of, place_form, place_free_of}
use Rattle.cube_text.proofs.ReadBack.{read_back}
use Rattle.journal_text.specs.declared.look.Look.TheVariants.{Item}
use Rattle.journal_text.specs.Text.{item_word, item_text}
use Rattle.journal_text.specs.Form.{widest, begins, is_brackets, is_numbered_front, item_name, item_front, item_back, is_item, cube_part, cube_look, plain_look, look_at}
use Rattle.journal_text.specs.Items.{IsItemLine}
use Rattle.journal_text.proofs.WideNumbers.{wide_words, wide_number}
use Rattle.journal_text.proofs.ToldLaws.{behind_brackets, item_open}

abbrev others : List ℕ → List ℕ
others is = flat_map (λ i. (32 ∷ []) ++ process_text i) is

-- no such byte stands among places
module _ (c : ℕ) (sep : (λ (b : ℕ). b == c) 32 ≡ false) (hash : (35 == c) ≡ false) (free : (i : ℕ) → i < 256 → Free (λ b. b == c) (process_text i)) where
  free_others : (is : List ℕ) → list_all (λ i. nat_lt i 11) is ≡ true → Free (λ b. b == c) (others is)
  free_others [] h = tt
  free_others (i ∷ is) h =
      let parts = and_parts (nat_lt i 11) (list_all (λ j. nat_lt j 11) is) h in
      let inside = ltb-true i 11 parts.0 in
      free_append (λ b. b == c) ((32 ∷ []) ++ process_text i) (others is) (sep, free i (omega arith)) (free_others is parts.1)

  pub free_places : (is : List ℕ) → list_all (λ i. nat_lt i 11) is ≡ true → Free (λ b. b == c) (join_by process_text (32 ∷ []) is)
  free_places [] h = tt
  free_places (i ∷ is) h =
      let parts = and_parts (nat_lt i 11) (list_all (λ j. nat_lt j 11) is) h in
      let inside = ltb-true i 11 parts.0 in
      free_append (λ b. b == c) (process_text i) (others is) (free i (omega arith)) (free_others is parts.1)

-- the words among places are the places
words_others : (first : List ℕ) → Free is_blank first → (is : List ℕ) → list_all (λ i. nat_lt i 11) is ≡ true → words_of (first ++ others is) ≡ first ∷ map process_text is
words_others first free [] h = ap words_of (append-nil first) ∙ parted_free is_blank first free
words_others first free (i ∷ is) h =
    let parts = and_parts (nat_lt i 11) (list_all (λ j. nat_lt j 11) is) h in
    let inside = ltb-true i 11 parts.0 in
    parted_at is_blank first 32 (process_text i ++ others is) free refl
    ∙ ap (λ ws. first ∷ ws) (words_others (process_text i) (place_free_of i (omega arith) 32 refl refl) is parts.1)

all_places : (is : List ℕ) → list_all (λ i. nat_lt i 11) is ≡ true → list_all is_place (map process_text is) ≡ true
all_places [] h = refl
all_places (i ∷ is) h =
    let parts = and_parts (nat_lt i 11) (list_all (λ j. nat_lt j 11) is) h in
    let inside = ltb-true i 11 parts.0 in
    and_from (is_place (process_text i)) (list_all is_place (map process_text is)) (place_form i (omega arith)) (all_places is parts.1)

listed : (is : List ℕ) → list_all (λ i. nat_lt i 11) is ≡ true
    → (is_empty (join_by process_text (32 ∷ []) is) || list_all is_place (words_of (join_by process_text (32 ∷ []) is))) ≡ true
listed [] h = refl
listed (i ∷ is) h =
    let parts = and_parts (nat_lt i 11) (list_all (λ j. nat_lt j 11) is) h in
    let inside = ltb-true i 11 parts.0 in
    let words = words_others (process_text i) (place_free_of i (omega arith) 32 refl refl) is parts.1 in
    ap (list_all is_place) words ∙ all_places (i ∷ is) h

pub brackets : (is : List ℕ) → list_all (λ i. nat_lt i 11) is ≡ true → is_brackets (processes_text is) ≡ true
brackets is h =
    let joined = join_by process_text (32 ∷ []) is in
    let free = free_places 41 refl refl (λ i small. place_free_of i small 41 refl refl) is h in
    rw (before_at 41 joined [] free refl, onward_at 41 joined [] free refl, listed is h) refl

module _ (p : Protocol) (a : Added) (early : a.piece < 2 ^ 64) (small : list_all (λ i. nat_lt i 11) a.places ≡ true) where
  fits : a.piece + 1 < 2 ^ 128
  fits = omega arith

  -- what stands before the brackets, and up to the colon
  abbrev named : Option ℕ → List ℕ
  named node = item_word node ++ (decimal (a.piece + 1) ++ 32 ∷ [])

  abbrev up_to : Option ℕ → List ℕ
  up_to node = named node ++ processes_text a.places

  parted_colon : (node : Option ℕ) → item_text p node a ≡ up_to node ++ 58 ∷ 32 ∷ cube_text p a.cube
  parted_colon node =
      item_open p a node
      ∙ ap (λ t. item_word node ++ t) (sym (append_assoc (decimal (a.piece + 1)) (32 ∷ []) (processes_text a.places ++ behind_brackets p a)))
      ∙ sym (append_assoc (item_word node) (decimal (a.piece + 1) ++ 32 ∷ []) (processes_text a.places ++ behind_brackets p a))
      ∙ sym (append_assoc (named node) (processes_text a.places) (behind_brackets p a))

  free_digits : (c : ℕ) → is_separator c ≡ true → Free (λ b. b == c) (decimal (a.piece + 1))
  free_digits c h = free_of c h (decimal (a.piece + 1)) (wide_words (a.piece + 1) fits)

  free_named : (node : Option ℕ) (c : ℕ) → is_separator c ≡ true → (32 == c) ≡ false → Free (λ b. b == c) (item_word node) → Free (λ b. b == c) (named node)
  free_named node c h blank word =
      free_append (λ b. b == c) (item_word node) (decimal (a.piece + 1) ++ 32 ∷ []) word
      (free_append (λ b. b == c) (decimal (a.piece + 1)) (32 ∷ []) (free_digits c h) (blank, tt))

  word_colon : (node : Option ℕ) → Free (λ b. b == 58) (item_word node)
  word_colon None = (refl, (refl, (refl, (refl, (refl, tt)))))
  word_colon (Some n) = (refl, (refl, (refl, (refl, tt))))

  word_bracket : (node : Option ℕ) → Free (λ b. b == 40) (item_word node)
  word_bracket None = (refl, (refl, (refl, (refl, (refl, tt)))))
  word_bracket (Some n) = (refl, (refl, (refl, (refl, tt))))

  free_up_to : (node : Option ℕ) → Free (λ b. b == 58) (up_to node)
  free_up_to node =
      free_append (λ b. b == 58) (named node) (processes_text a.places) (free_named node 58 refl refl (word_colon node))
      (refl, free_append (λ b. b == 58) (join_by process_text (32 ∷ []) a.places) (41 ∷ []) (free_places 58 refl refl (λ i few. place_free_of i few 58 refl refl) a.places small) (refl, tt))

  front_is : (node : Option ℕ) → item_front (item_text p node a) ≡ up_to node
  front_is node = ap item_front (parted_colon node) ∙ before_at 58 (up_to node) (32 ∷ cube_text p a.cube) (free_up_to node) refl

  back_is : (node : Option ℕ) → item_back (item_text p node a) ≡ 58 ∷ 32 ∷ cube_text p a.cube
  back_is node = ap item_back (parted_colon node) ∙ onward_at 58 (up_to node) (32 ∷ cube_text p a.cube) (free_up_to node) refl

  bracket_is : (node : Option ℕ) → before 40 (up_to node) ≡ named node
  bracket_is node = before_at 40 (named node) (join_by process_text (32 ∷ []) a.places ++ 41 ∷ []) (free_named node 40 refl refl (word_bracket node)) refl

  bracketed : (node : Option ℕ) → onward 40 (up_to node) ≡ processes_text a.places
  bracketed node = onward_at 40 (named node) (join_by process_text (32 ∷ []) a.places ++ 41 ∷ []) (free_named node 40 refl refl (word_bracket node)) refl

  numbered_front : (node : Option ℕ) → is_numbered_front (item_name node) (words_of (named node)) ≡ true
  numbered_front None =
      ap (is_numbered_front (codes "root")) (three (codes "root") (decimal (a.piece + 1)) [] (refl, (refl, (refl, (refl, tt)))) (free_digits 32 refl) tt)
      ∙ rw (wide_number (a.piece + 1) fits (omega arith)) refl
  numbered_front (Some n) =
      ap (is_numbered_front (codes "new")) (three (codes "new") (decimal (a.piece + 1)) [] (refl, (refl, (refl, tt))) (free_digits 32 refl) tt)
      ∙ rw (wide_number (a.piece + 1) fits (omega arith)) refl

  pub cube_part_is : (node : Option ℕ) → cube_part (item_text p node a) ≡ cube_text p a.cube
  cube_part_is node = ap (drop 2) (back_is node)

  pub item_form : (node : Option ℕ) → is_item node (item_text p node a) ≡ true
  item_form node =
      and_from _ (begins (codes ": ") (item_back (item_text p node a)))
      (and_from (is_numbered_front (item_name node) (words_of (before 40 (item_front (item_text p node a))))) (is_brackets (onward 40 (item_front (item_text p node a))))
      (ap (λ t. is_numbered_front (item_name node) (words_of (before 40 t))) (front_is node) ∙ ap (λ t. is_numbered_front (item_name node) (words_of t)) (bracket_is node) ∙ numbered_front node)
      (ap (λ t. is_brackets (onward 40 t)) (front_is node) ∙ ap is_brackets (bracketed node) ∙ brackets a.places small))
      (ap (begins (codes ": ")) (back_is node))

-- the line looks as an added cube
pub item_look : (p : Protocol) (node : Option ℕ) (line : List ℕ) (a : Added) → IsItemLine p node line a → look_at p node line ≡ Item
item_look p node line a t =
    ap (look_at p node) t.text
    ∙ cond-true (is_item node (item_text p node a)) (cube_look (reading p widest (cube_part (item_text p node a)))) (plain_look (item_text p node a)) (item_form p a t.early t.small node)
    ∙ ap (λ c. cube_look (reading p widest c)) (cube_part_is p a t.early t.small node) ∙ ap cube_look (read_back p widest a.cube (omega arith) t.lawful)
