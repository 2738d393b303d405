-- When a cube has the meaning of a piece, by what its literals entail.
use Rattle.std.proofs.Common.{◌≡◌, ℕ, Bool, true, false, List, length, get_or, refl, sym, ap, ◌∙◌, subst}
use Rattle.std.specs.Prelude.{IsTrue, All, Contains}
use Rattle.std.specs.List.{list_all}
use Rattle.std.proofs.lemmas.List.Elements.{All-contains, Contains-get_or}
use Rattle.cub_base.proofs.Conjunctions.{list_all_item}
use Rattle.cub_base.proofs.Elements.{from_all, all_from}
use Rattle.cub_proto.specs.declared.literal.Lit.{Lit}
use Rattle.cub_proto.specs.declared.protocol.Protocol.{Protocol}
use Rattle.cub_proto.specs.StateOf.{signature_of}
use Rattle.cub_proto.specs.Fits.{literal_fits}
use Rattle.cub_proto.specs.Truth.{is_true, all_true}
use Rattle.cub_proto.specs.Meets.{Satisfies}
use Rattle.cub_cube.specs.Normal.{ordered}
use Rattle.cub_cube.specs.Rename.{along, renamed, is_within, IsInjection}
use Rattle.cub_cube.specs.Meaning.{AreAtPlaces, SameMeaningAlong}
use Rattle.cub_cube.proofs.Renames.{renamed_true, length-along}
use Rattle.cub_cube.proofs.Subjects.{ordered_true}
use Rattle.cub_cube.proofs.Placing.{along_satisfies, along_processes}
use Rattle.cub_cube.specs.declared.cube.Cube.{Cube}
use Rattle.cub_cube.specs.Normal.{is_normal}
use Rattle.cub_cube.proofs.RenamedFits.{all_fits_within}
use Rattle.theory_laws.specs.Entailed.{Entails}
use Rattle.log_form.specs.Forms.{IsForm}
use Rattle.cube_form.specs.Name.{turned}
use Rattle.cube_form.proofs.Renaming.{length-turned, turned_injection, there_and_back, back_and_there}

two_ways : (a b : Bool) → (IsTrue a → IsTrue b) → (IsTrue b → IsTrue a) → a ≡ b
two_ways true b f g = sym (f refl)
two_ways false true f g = g refl
two_ways false false f g = refl

module _ (p : Protocol) (width : ℕ) (r : List ℕ) (onto : IsInjection width width r) (lits big : List Lit)
    (lits_within : IsTrue (list_all (is_within width) lits)) (big_within : IsTrue (list_all (is_within width) big)) where
  within_back : IsTrue (list_all (is_within (length (turned r))) big)
  within_back = subst (λ n. IsTrue (list_all (is_within n) big)) (sym (length-turned r ∙ onto.one_each)) big_within

  within_there : IsTrue (list_all (is_within (length r)) lits)
  within_there = subst (λ n. IsTrue (list_all (is_within n) lits)) (sym onto.one_each) lits_within

  sized : (n : ℕ) → n ≡ width → (s : List ℕ) → IsInjection width width s → IsInjection width n s
  sized n same s injection = subst (λ m. IsInjection width m s) (sym same) injection

  -- some literals that entail all have their meaning
  pub same_where_entailed : All (λ l. Contains big (ordered (renamed r l))) lits → All (λ m. Entails p width lits (renamed (turned r) m)) big → SameMeaningAlong p width r lits big
  same_where_entailed some entailed s places at = two_ways (all_true s (along r places) lits) (all_true s places big) there back
    where
      there : IsTrue (all_true s (along r places) lits) → IsTrue (all_true s places big)
      there holds =
          let sat : Satisfies s (along r places) width lits = along_satisfies s places r width lits (sized (length places) at.one_each r onto) at.processes holds in
          from_all (is_true s places) big
          (λ k d below.
          sym (renamed_true s (turned r) (along r places) (get_or big k d) (list_all_item (is_within (length (turned r))) big k d below within_back)
          ∙ ap (λ qs. is_true s qs (get_or big k d)) (back_and_there width r onto places at.one_each))
          ∙ entailed k d below s (along r places) at.state sat)

      back : IsTrue (all_true s places big) → IsTrue (all_true s (along r places) lits)
      back holds =
          from_all (is_true s (along r places)) lits
          (λ k d below.
          sym (renamed_true s r places (get_or lits k d) (list_all_item (is_within (length r)) lits k d below within_there))
          ∙ sym (ordered_true s places (renamed r (get_or lits k d)))
          ∙ All-contains (λ m. IsTrue (is_true s places m)) big (ordered (renamed r (get_or lits k d))) (all_from (is_true s places) big holds) (some k d below))

  -- and the other way
  pub entailed_where_same : SameMeaningAlong p width r lits big → All (λ m. Entails p width lits (renamed (turned r) m)) big
  entailed_where_same same k d below s places state sat =
      renamed_true s (turned r) places (get_or big k d) (list_all_item (is_within (length (turned r))) big k d below within_back)
      ∙ list_all_item (is_true s old) big k d below (sym (same s old at) ∙ ap (λ qs. all_true s qs lits) (there_and_back width r onto places sat.one_each) ∙ sat.holds)
    where
      old : List ℕ
      old = along (turned r) places

      at : AreAtPlaces p s (along (turned r) places) width
      at = record {
        state = state;
        one_each = length-along (turned r) places ∙ length-turned r ∙ onto.one_each;
        processes = along_processes s places (turned r) width (sized (length places) sat.one_each (turned r) (turned_injection width r onto)) sat.processes;
      }

-- ---- forms by what is tested
module _ (p : Protocol) (piece c : Cube) (r : List ℕ) (piece_fits : IsTrue (list_all (literal_fits (signature_of p) piece.width) piece.lits))
    (c_fits : IsTrue (list_all (literal_fits (signature_of p) c.width) c.lits)) where
  piece_within : IsTrue (list_all (is_within piece.width) piece.lits)
  piece_within = all_fits_within (signature_of p) piece.width piece.lits piece_fits

  c_within : c.width ≡ piece.width → IsTrue (list_all (is_within piece.width) c.lits)
  c_within width = subst (λ n. IsTrue (list_all (is_within n) c.lits)) width (all_fits_within (signature_of p) c.width c.lits c_fits)

  -- what is asked before literals are renamed
  pub within_renaming : c.width ≡ piece.width → IsInjection piece.width piece.width r → IsTrue (list_all (is_within (length r)) c.lits)
  within_renaming width onto = subst (λ n. IsTrue (list_all (is_within n) c.lits)) (sym onto.one_each) (c_within width)

  pub is_form_where : c.width ≡ piece.width → IsInjection piece.width piece.width r → IsTrue (is_normal (signature_of p) c.lits)
      → All (λ l. Contains piece.lits (ordered (renamed r l))) c.lits → All (λ m. Entails p c.width c.lits (renamed (turned r) m)) piece.lits → IsForm p piece r c
  is_form_where width onto normal some entailed = record {
    width = width;
    onto = onto;
    within = c_within width;
    some = λ l there. All-contains (λ x. Contains piece.lits (ordered (renamed r x))) c.lits l some there;
    normal = normal;
    same =
        same_where_entailed p piece.width r onto c.lits piece.lits (c_within width) piece_within some
        (subst (λ n. All (λ m. Entails p n c.lits (renamed (turned r) m)) piece.lits) width entailed);
  }

  pub some_of_form : IsForm p piece r c → All (λ l. Contains piece.lits (ordered (renamed r l))) c.lits
  some_of_form form k d below = form.some (get_or c.lits k d) (Contains-get_or c.lits k d below)

  pub entailed_by_form : IsForm p piece r c → All (λ m. Entails p c.width c.lits (renamed (turned r) m)) piece.lits
  entailed_by_form form =
      subst (λ n. All (λ m. Entails p n c.lits (renamed (turned r) m)) piece.lits) (sym form.width)
      (entailed_where_same p piece.width r form.onto c.lits piece.lits (c_within form.width) piece_within form.same)
