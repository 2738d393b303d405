-- The given form is an admitted one.
use Rattle.std.proofs.Common.{◌≡◌, ℕ, List, [], length, refl, sym, ap, ◌∙◌, subst, arith}
use Rattle.std.specs.Prelude.{not, IsTrue, Contains}
use Rattle.std.specs.List.{list_all}
use Rattle.cub_base.proofs.Bools.{and_left, and_right}
use Rattle.cub_base.proofs.Elements.{all_from}
use Rattle.cub_base.proofs.Members.{has_Contains, contains_Has, map_has, all_has}
use Rattle.cub_proto.specs.declared.literal.Lit.{Lit}
use Rattle.cub_proto.specs.declared.protocol.Protocol.{Protocol}
use Rattle.cub_proto.specs.StateOf.{signature_of}
use Rattle.cub_proto.specs.Fits.{literal_fits}
use Rattle.cub_proto.specs.Truth.{all_true}
use Rattle.cub_cube.specs.declared.cube.Cube.{Cube}
use Rattle.cub_cube.specs.Normal.{ordered, normal_form, subjects_rise, has_ordered_sides, is_plain, is_normal, is_true_alone}
use Rattle.cub_cube.specs.Rename.{along, renamed, renamed_all, is_within, IsInjection}
use Rattle.cub_cube.specs.Meaning.{AreAtPlaces, SameMeaningAlong}
use Rattle.cub_cube.proofs.Form.{form_is_normal, fold_fits}
use Rattle.cub_cube.proofs.Renames.{length-along}
use Rattle.cub_cube.proofs.RenamedFits.{renamed_all_fits, all_fits_within, renamed_form_true}
use Rattle.cub_cube.proofs.Placing.{along_processes}
use Rattle.log_form.specs.Forms.{IsForm}
use Rattle.cube_form.specs.Simple.{IsSimplified}
use Rattle.cube_form.specs.Name.{turned, IsNamed}
use Rattle.cube_form.proofs.Simplifying.{drops_all, drops_normal, drops_is_there, drops_same}
use Rattle.cube_form.proofs.Renaming.{length-turned, turned_injection, turned_along, back_and_there}
use Rattle.cube_form.proofs.Distinct.{form_has, renamed_apart, recovered}

module _ (p : Protocol) (c simple given : Cube) (places : List ℕ) (fits : IsTrue (list_all (literal_fits (signature_of p) c.width) c.lits)) (normal : IsTrue (is_normal (signature_of p) c.lits))
    (simplified : IsSimplified p c simple) (named : IsNamed p simple places given) where
  onto : IsInjection c.width c.width places
  onto = subst (λ n. IsInjection n n places) simplified.width named.order.each

  simple_fits : IsTrue (list_all (literal_fits (signature_of p) c.width) simple.lits)
  simple_fits = drops_all (literal_fits (signature_of p) c.width) p c.width (length c.lits) c.lits simple.lits simplified.lits fits

  simple_normal : IsTrue (is_normal (signature_of p) simple.lits)
  simple_normal = drops_normal (signature_of p) p c.width (length c.lits) c.lits simple.lits simplified.lits normal

  length_back : length (turned places) ≡ c.width
  length_back = length-turned places ∙ onto.one_each

  back_fits : IsTrue (list_all (literal_fits (signature_of p) (length (turned places))) simple.lits)
  back_fits = subst (λ n. IsTrue (list_all (literal_fits (signature_of p) n) simple.lits)) (sym length_back) simple_fits

  renamed_fit : IsTrue (list_all (literal_fits (signature_of p) c.width) (renamed_all (turned places) simple.lits))
  renamed_fit = renamed_all_fits (signature_of p) c.width (turned places) (turned_injection c.width places onto).within simple.lits back_fits

  some : (l : Lit) → Contains given.lits l → Contains c.lits (ordered (renamed places l))
  some l there =
      let plain = and_left (list_all (is_plain (signature_of p)) simple.lits) (subjects_rise simple.lits) simple_normal in
      let within = all_fits_within (signature_of p) c.width simple.lits simple_fits in
      let found =
      form_has (signature_of p) (renamed_all (turned places) simple.lits) l
      (renamed_apart c.width (turned places) places length_back (turned_along c.width places onto) (signature_of p) simple.lits within plain
      (and_right (list_all (is_plain (signature_of p)) simple.lits) (subjects_rise simple.lits) simple_normal))
      (subst (λ (ls : List Lit). Contains ls l) named.lits there) in
      let one = map_has (renamed (turned places)) simple.lits found.0 (contains_Has (renamed_all (turned places) simple.lits) found.0 found.1) in
      let m_within = all_has (λ x. IsTrue (is_within c.width x)) simple.lits one.0 (all_from (is_within c.width) simple.lits within) one.1 in
      let m_plain = all_has (λ x. IsTrue (is_plain (signature_of p) x)) simple.lits one.0 (all_from (is_plain (signature_of p)) simple.lits plain) one.1 in
      let same : ordered (renamed places l) ≡ one.0 =
      ap (λ x. ordered (renamed places x)) (found.2 ∙ ap ordered (sym one.2))
      ∙ recovered c.width (turned places) places length_back (turned_along c.width places onto) one.0 m_within (and_left (has_ordered_sides one.0) (not (is_true_alone (signature_of p) one.0)) m_plain) in
      subst (Contains c.lits) (sym same) (drops_is_there p c.width (length c.lits) c.lits simple.lits one.0 simplified.lits (has_Contains simple.lits one.0 one.1))

  same : SameMeaningAlong p c.width places given.lits c.lits
  same s others at =
      let sized : IsInjection c.width (length others) places = subst (λ m. IsInjection c.width m places) (sym at.one_each) onto in
      let there : AreAtPlaces p s (along places others) c.width = record {
        state = at.state;
        one_each = length-along places others ∙ onto.one_each;
        processes = along_processes s others places c.width sized at.processes;
      } in
      ap (all_true s (along places others)) named.lits
      ∙ renamed_form_true p c.width (turned places) simple.lits (turned_injection c.width places onto).within back_fits s (along places others) there
      ∙ ap (λ q. all_true s q simple.lits) (back_and_there c.width places onto others at.one_each)
      ∙ drops_same p c.width (length c.lits) c.lits simple.lits (omega arith) simplified.lits s others at

  pub given_is_admitted : IsForm p c places given
  given_is_admitted = record {
    width = named.width ∙ simplified.width;
    onto = onto;
    within =
        subst (λ (ls : List Lit). IsTrue (list_all (is_within c.width) ls)) (sym named.lits)
        (all_fits_within (signature_of p) c.width (normal_form (signature_of p) (renamed_all (turned places) simple.lits)) (fold_fits (signature_of p) c.width [] (renamed_all (turned places) simple.lits) refl renamed_fit));
    some = some;
    normal = subst (λ (ls : List Lit). IsTrue (is_normal (signature_of p) ls)) (sym named.lits) (form_is_normal (signature_of p) c.width (renamed_all (turned places) simple.lits) renamed_fit);
    same = same;
  }
