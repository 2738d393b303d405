-- What was written of a cube is read as it.
use Rattle.std.proofs.Common.{◌≡◌, ℕ, ◌≤◌, true, not, ◌==◌, List, [], ◌∷◌, ◌++◌, flat_map, Some, Ok, refl, ap, sym, ◌∙◌, arith, codes, decimal, append_assoc}
use Rattle.std.specs.Prelude.{option_and_then}
use Rattle.std.specs.List.{list_all}
use Rattle.std.proofs.lemmas.Bool.{and_parts, le-leb}
use Rattle.std.proofs.lemmas.List.{append-nil}
use Rattle.std.proofs.lemmas.Slice.Eq.{bytes_eq-Decides}
use Rattle.cub_proto.specs.declared.literal.Lit.{Lit}
use Rattle.cub_proto.specs.declared.literal.Lit.TheVariants.{FinIn, FinEq, FinNe, ProcEq, ProcNe, Diff}
use Rattle.cub_proto.specs.declared.protocol.Protocol.{Protocol}
use Rattle.cub_proto.specs.StateOf.{signature_of}
use Rattle.cub_proto.specs.Fits.{literal_fits, is_bounded}
use Rattle.cub_cube.specs.declared.cube.Cube.{Cube}
use Rattle.cub_cube.specs.Normal.{is_plain, has_ordered_sides, is_true_alone, subjects_rise}
use Rattle.text_lines.proofs.WordLaws.{AreWordBytes}
use Rattle.text_lines.proofs.NumberLaws.{decimal_words, natural_written}
use Rattle.cube_text.specs.Text.{lit_text, lits_text, cube_text}
use Rattle.cube_text.specs.Form.{parted, words_of, is_and, before, onward, is_literal, are_literals, is_cube, has_form}
use Rattle.cube_text.specs.Meaning.{greatest_bound, literals_from, literals_in, width_in, cube_in}
use Rattle.cube_text.specs.Reading.{IsLawful, reading}
use Rattle.cube_text.proofs.Splitting.{Free, free_append, parted_free, parted_at, parted_join, before_at, onward_at, is_blank}
use Rattle.cube_text.proofs.Words.{free_of, number_written}
use Rattle.cube_text.proofs.LitWords.{IsWritten, finite_equal, finite_differ, processes_equal, processes_differ, difference, membership}

module _ (p : Protocol) (width : ℕ) (narrow : width ≤ 255) where
  -- a literal that fits, within the limit, with its sides in order
  lit_written : (l : Lit) → literal_fits (signature_of p) width l ≡ true → is_bounded greatest_bound l ≡ true → has_ordered_sides l ≡ true → IsWritten p width l
  lit_written (FinIn t mask) f b o = membership p width narrow t mask f
  lit_written (FinEq a c) f b o = finite_equal p width narrow a c f
  lit_written (FinNe a c) f b o = finite_differ p width narrow a c f
  lit_written (ProcEq a c) f b o = processes_equal p width narrow a c f o
  lit_written (ProcNe a c) f b o = processes_differ p width narrow a c f o
  lit_written (Diff a c z) f b o = difference p width narrow a c z f b

  AreWritten : List Lit → Type 0
  AreWritten [] = Unit {0}
  AreWritten (l ∷ ls) = IsWritten p width l × AreWritten ls

  lits_written : (lits : List Lit) → list_all (literal_fits (signature_of p) width) lits ≡ true → list_all (is_bounded greatest_bound) lits ≡ true → list_all (is_plain (signature_of p)) lits ≡ true → AreWritten lits
  unfolding AreWritten
  lits_written [] f b o = tt
  lits_written (l ∷ ls) f b o =
      let fs = and_parts (literal_fits (signature_of p) width l) (list_all (literal_fits (signature_of p) width) ls) f in
      let bs = and_parts (is_bounded greatest_bound l) (list_all (is_bounded greatest_bound) ls) b in
      let os = and_parts (is_plain (signature_of p) l) (list_all (is_plain (signature_of p)) ls) o in
      (lit_written l fs.0 bs.0 (and_parts (has_ordered_sides l) (not (is_true_alone (signature_of p) l)) os.0).0, lits_written ls fs.1 bs.1 os.1)

  -- the words of literals, with `&&` between them
  groups : (lits : List Lit) → AreWritten lits → List (List (List ℕ))
  unfolding AreWritten
  groups [] w = []
  groups (l ∷ ls) w = w.0.words ∷ groups ls w.1

  behind : (lits : List Lit) → AreWritten lits → List (List ℕ)
  unfolding AreWritten
  behind [] w = []
  behind (l ∷ ls) w = codes "&&" ∷ (w.0.words ++ behind ls w.1)

  words_are : (l : Lit) (ls : List Lit) (here : IsWritten p width l) (w : AreWritten ls) → words_of (lits_text p (l ∷ ls)) ≡ here.words ++ behind ls w
  unfolding AreWritten behind
  words_are l [] here w = ap words_of (append-nil (lit_text p l)) ∙ here.split ∙ sym (append-nil here.words)
  words_are l (m ∷ ms) here w =
      let rest = lits_text p (m ∷ ms) in
      let text : lits_text p (l ∷ m ∷ ms) ≡ lit_text p l ++ 32 ∷ (codes "&&" ++ 32 ∷ rest) =
      ap (λ t. lit_text p l ++ t) (append_assoc (codes " && ") (lit_text p m) (flat_map (λ y. codes " && " ++ lit_text p y) ms)) in
      ap words_of text
      ∙ parted_join is_blank (lit_text p l) 32 (codes "&&" ++ 32 ∷ rest) refl
      ∙ ap (λ ws. ws ++ words_of (codes "&&" ++ 32 ∷ rest)) here.split
      ∙ ap (λ ws. here.words ++ ws) (parted_at is_blank (codes "&&") 32 rest (refl, (refl, tt)) refl ∙ ap (λ ws. codes "&&" ∷ ws) (words_are m ms w.0 w.1))

  groups_are : (l : Lit) (ls : List Lit) (here : IsWritten p width l) (w : AreWritten ls) → parted is_and (here.words ++ behind ls w) ≡ here.words ∷ groups ls w
  unfolding AreWritten behind groups
  groups_are l [] here w = ap (parted is_and) (append-nil here.words) ∙ parted_free is_and here.words here.no_and
  groups_are l (m ∷ ms) here w =
      parted_at is_and here.words (codes "&&") (w.0.words ++ behind ms w.1) here.no_and refl ∙ ap (λ gs. here.words ∷ gs) (groups_are m ms w.0 w.1)

  forms_are : (lits : List Lit) (w : AreWritten lits) → list_all is_literal (groups lits w) ≡ true
  unfolding AreWritten groups
  forms_are [] w = refl
  forms_are (l ∷ ls) w = rw (w.0.form, forms_are ls w.1) refl

  names_are : (lits : List Lit) (w : AreWritten lits) (front : List Lit) → literals_from p width front (groups lits w) ≡ Some (front ++ lits)
  unfolding AreWritten groups
  names_are [] w front = ap Some (sym (append-nil front))
  names_are (l ∷ ls) w front =
      ap (option_and_then (λ x. literals_from p width (front ++ x ∷ []) (groups ls w.1))) w.0.named
      ∙ names_are ls w.1 (front ++ l ∷ []) ∙ ap Some (append_assoc front (l ∷ []) ls)

  record AreRead (lits : List Lit) : Type 0 where
    form : are_literals (words_of (lits_text p lits)) ≡ true
    named : literals_in p width (words_of (lits_text p lits)) ≡ Some lits

  lits_read : (lits : List Lit) → AreWritten lits → AreRead lits
  unfolding AreWritten groups
  lits_read [] w = record { form = refl; named = refl }
  lits_read (l ∷ ls) w =
      let words = words_are l ls w.0 w.1 in
      let parts = groups_are l ls w.0 w.1 in
      let long = w.0.long (behind ls w.1) in
      record {
        form = rw words (rw (long, parts) (forms_are (l ∷ ls) w));
        named = rw words (rw (long, parts) (names_are (l ∷ ls) w []));
      }

-- `cube 2: ` in front
module _ (p : Protocol) (widest : ℕ) (c : Cube) (few : widest ≤ 255) (lawful : IsLawful p widest c) where
  narrow : c.width ≤ 255
  narrow = omega (arith, few, lawful.narrow)

  plain : list_all (is_plain (signature_of p)) c.lits ≡ true
  plain = (and_parts (list_all (is_plain (signature_of p)) c.lits) (subjects_rise c.lits) lawful.normal).0

  read : AreRead p c.width narrow c.lits
  read = lits_read p c.width narrow c.lits (lits_written p c.width narrow c.lits lawful.fits lawful.bounded plain)

  digits : AreWordBytes (decimal c.width)
  digits = decimal_words c.width (omega (arith, narrow))

  text : cube_text p c ≡ codes "cube" ++ 32 ∷ ((decimal c.width ++ codes ":") ++ 32 ∷ lits_text p c.lits)
  text =
      ap (λ t. codes "cube " ++ t)
      (append_assoc (decimal c.width) (codes ": ") (lits_text p c.lits) ∙ sym (append_assoc (decimal c.width) (codes ":") (32 ∷ lits_text p c.lits)))

  words : words_of (cube_text p c) ≡ codes "cube" ∷ (decimal c.width ++ codes ":") ∷ words_of (lits_text p c.lits)
  words =
      ap words_of text
      ∙ parted_at is_blank (codes "cube") 32 ((decimal c.width ++ codes ":") ++ 32 ∷ lits_text p c.lits) (refl, (refl, (refl, (refl, tt)))) refl
      ∙ ap (λ ws. codes "cube" ∷ ws) (parted_at is_blank (decimal c.width ++ codes ":") 32 (lits_text p c.lits) (free_append is_blank (decimal c.width) (codes ":") (free_of 32 refl (decimal c.width) digits) (refl, tt)) refl)

  colon : Free (λ b. b == 58) (decimal c.width)
  colon = free_of 58 refl (decimal c.width) digits

  front : before 58 (decimal c.width ++ codes ":") ≡ decimal c.width
  front = before_at 58 (decimal c.width) [] colon refl

  back : onward 58 (decimal c.width ++ codes ":") ≡ codes ":"
  back = onward_at 58 (decimal c.width) [] colon refl

  form : has_form (cube_text p c) ≡ true
  form = ap is_cube words ∙ rw (front, back, number_written c.width (omega (arith, narrow)), read.form) refl

  width_read : width_in widest (decimal c.width ++ codes ":") ≡ Some c.width
  width_read = rw (front, natural_written c.width (omega (arith, narrow)), le-leb c.width widest lawful.narrow) refl

  named : cube_in p widest (words_of (cube_text p c)) ≡ Some c
  named = ap (cube_in p widest) words ∙ rw (width_read, read.named) refl

  pub read_back : reading p widest (cube_text p c) ≡ Ok c
  read_back = rw (form, named, lawful.normal, (bytes_eq-Decides (cube_text p c) (cube_text p c)).1 refl) refl
