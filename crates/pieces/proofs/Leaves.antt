-- A whole draft that stands is a candidate, so what holds of candidates holds of it.
use Rattle.std.proofs.Common.{◌≡◌, ℕ, suc, ◌+◌, ◌*◌, ◌<◌, ◌≤◌, Bool, true, List, [], ◌∷◌, ◌++◌, length, ◌-◌, false, Some, refl, sym, ap, ◌∙◌, subst, arith}
use Rattle.std.specs.Prelude.{filter, not, if◌then◌else◌, IsTrue, Contains, slice_get}
use Rattle.std.specs.List.{list_all, range_with_len}
use Rattle.std.proofs.lemmas.List.{length-append}
use Rattle.std.proofs.lemmas.List.FromFn.{length-range_with_len}
use Rattle.cub_base.proofs.Members.{contains_Has}
use Rattle.cub_proto.specs.StateOf.{signature_of}
use Rattle.cub_proto.specs.Fits.{literal_fits, greatest_constant, update_fits}
use Rattle.cub_cube.specs.Mentions.{terms_in}
use Rattle.cub_cube.specs.Replace.{can_replace_all}
use Rattle.theory_laws.specs.Fitting.{AreFitting, greatest_size}
use Rattle.updates.specs.Chosen.{values_by}
use Rattle.updates.specs.Sides.{most_bound}
use Rattle.updates.proofs.StepLemmas.{all_member, member_all, values_can}
use Rattle.piece_choices.specs.declared.piece.Piece.{Piece}
use Rattle.piece_choices.specs.Placings.{is_among, free_places, new_places}
use Rattle.piece_choices.specs.Selections.{Selection}
use Rattle.piece_choices.specs.Pieces.{candidates}
use Rattle.piece_choices.proofs.Candidates.{candidate_is}
use Rattle.piece_choices.proofs.ListLemmas.{zip_length}
use Rattle.piece_choices.proofs.SelectionLemmas.{IsSelection}
use Rattle.piece_choices.proofs.Fitting.{TransitionFits, its_transition, placed, placing_narrow, cube_narrow, params_below, updates_at, parts_of, has_choices, params_within}
use Rattle.piece_choices.proofs.Limits.{piece_fits, piece_bounded, all_wider}
use Rattle.piece_choices.proofs.Widths.{piece_wide, transition_few}
use Rattle.piece_steps.specs.Steps.{Draft}
use Rattle.piece_steps.proofs.Pruning.{wider_fits}
use Rattle.pieces.specs.Handed.{piece_of}
use Rattle.pieces.specs.Jobs.{Search, Stands, IsWhole, cube_of, greatest_expanded}

-- the piece of a whole draft
abbrev pub own_piece : Search → Draft → Piece
own_piece j d = piece_of j.number d (cube_of (signature_of j.protocol) j.transition j.cube.lits d)

length_filter : (test : ℕ → Bool) (xs : List ℕ) → length (filter test xs) ≤ length xs
length_filter test [] = omega arith
length_filter test (x ∷ xs) = by (test x) (length_filter test xs)
  where
    by : (b : Bool) → length (filter test xs) ≤ length xs → length (if b then x ∷ filter test xs else filter test xs) ≤ suc (length xs)
    by true h = omega arith
    by false h = omega arith

module _ (j : Search) (d : Draft) (stands : Stands j [] d) where
  pub among : Contains (candidates j.protocol j.cube) (own_piece j d)
  among = stands.leaves (own_piece j d) (0, omega arith, refl)

  abbrev fits_cube : IsTrue (list_all (literal_fits (signature_of j.protocol) j.cube.width) j.cube.lits)
  fits_cube = stands.job.cube.fits

  -- the selection that it is
  record Its : Type 0 where
    selected : Selection
    is : IsSelection (signature_of j.protocol) j.transition j.cube.width (terms_in j.cube.lits) selected
    params : selected.placing.params ≡ d.params
    choices : selected.picking.choices ≡ d.choices
    others : selected.others ++ selected.late ≡ d.others
    width : selected.picking.width ≡ d.width

  its : Its
  its =
      let found = candidate_is j.protocol j.cube (own_piece j d) (contains_Has (candidates j.protocol j.cube) (own_piece j d) among) in
      let number : found.number ≡ j.number = ap (λ x. x.label.transition) found.same in
      let here : Some found.transition ≡ Some j.transition = sym found.at ∙ ap (slice_get j.protocol.transitions) number ∙ stands.job.its in
      let same : found.transition ≡ j.transition = cc in
      record {
        selected = found.selected;
        is = subst (λ t. IsSelection (signature_of j.protocol) t j.cube.width (terms_in j.cube.lits) found.selected) same found.is;
        params = ap (λ x. x.label.params) found.same;
        choices = ap (λ x. x.label.choices) found.same;
        others = ap (λ x. x.label.others) found.same;
        width = ap (λ x. x.cube.width) found.same;
      }

  fit : TransitionFits j.protocol j.transition
  fit = its_transition j.protocol j.number j.transition stands.job.its

  -- it fits the theory
  pub whole_fitting : AreFitting j.protocol d.width (cube_of (signature_of j.protocol) j.transition j.cube.lits d).lits
  whole_fitting =
      let at = contains_Has (candidates j.protocol j.cube) (own_piece j d) among in
      let wide = piece_wide j.protocol j.cube (own_piece j d) fits_cube at in
      let narrow = stands.job.cube.narrow in
      record {
        narrow = omega (arith, wide.1, narrow);
        fit = piece_fits j.protocol j.cube (own_piece j d) fits_cube at;
        bounded = all_wider (greatest_expanded + 2 * greatest_constant) greatest_size (own_piece j d).cube.lits (omega arith)
            (piece_bounded j.protocol j.cube (own_piece j d) greatest_expanded fits_cube stands.job.cube.bounded (omega arith) at);
      }

  -- its alternatives of the universal guard are few
  pub whole_few : length d.others ≤ 12
  whole_few =
      let x = its.selected in
      let early = zip_length (λ q n. n < length j.transition.others) (free_places x.placing.params x.placing.width) x.others its.is.others in
      let late = zip_length (λ q n. n < length j.transition.others) (new_places x.placing.width x.picking.width) x.late its.is.late in
      let free = length_filter (λ q. not (is_among x.placing.params q)) (range_with_len 0 x.placing.width) in
      let all = length-range_with_len 0 x.placing.width in
      let new = length-range_with_len x.placing.width (x.picking.width - x.placing.width) in
      let order = placing_narrow j.protocol j.transition fit j.cube.width j.cube.lits fits_cube x its.is in
      let wide = piece_wide j.protocol j.cube (own_piece j d) fits_cube (contains_Has (candidates j.protocol j.cube) (own_piece j d) among) in
      let narrow = stands.job.cube.narrow in
      let total = sym (length-append x.others x.late) ∙ ap length its.others in
      omega (arith, early, late, free, all, new, order, wide.1, narrow, total, its.width)

  size_params : length d.params ≡ j.transition.params
  size_params = let n = stands.fits.count in omega arith

  -- each term has a value that can stand for it
  pub whole_is : IsWhole j.protocol j.transition j.terms j.cube.lits d
  whole_is =
      let x = its.selected in
      let own = its.is in
      let sig = signature_of j.protocol in
      let narrow = cube_narrow j.protocol j.transition fit j.cube.width j.cube.lits fits_cube x own in
      record {
        few = (let n = size_params in let few = transition_few j.protocol j.number j.transition stands.job.its in omega arith);
        fit = subst (λ n. IsTrue (list_all (update_fits (signature_of j.protocol) n) j.transition.updates)) (sym size_params) fit.updates;
        terms_are = stands.job.terms_are ∙ sym stands.terms;
        fits = (let a = stands.fits.wide in let b = stands.fits.within in wider_fits (signature_of j.protocol) j.cube.width d.width (omega arith) j.cube.lits fits_cube);
        can = subst (λ w. IsTrue (list_all (can_replace_all (signature_of j.protocol) w (values_by j.transition.updates d.params d.choices)) j.cube.lits)) its.width
            (subst (λ cs. IsTrue (list_all (can_replace_all (signature_of j.protocol) its.selected.picking.width (values_by j.transition.updates d.params cs)) j.cube.lits)) its.choices
            (subst (λ ps. IsTrue (list_all (can_replace_all (signature_of j.protocol) its.selected.picking.width (values_by j.transition.updates ps its.selected.picking.choices)) j.cube.lits)) its.params
            (member_all (can_replace_all sig x.picking.width (values_by j.transition.updates x.placing.params x.picking.choices)) j.cube.lits
            (λ l at.
            values_can j.protocol j.transition.updates x.placing.params (updates_at j.protocol j.transition fit j.cube.width j.cube.lits fits_cube x own) j.cube.width x.picking.width narrow
            (params_within j.protocol j.transition fit x.placing.params (placed j.protocol j.transition fit j.cube.width j.cube.lits fits_cube x own).one_each x.picking.width (params_below j.protocol j.transition fit j.cube.width j.cube.lits fits_cube x own))
            x.picking.choices l (all_member (literal_fits sig j.cube.width) j.cube.lits l fits_cube at) (parts_of j.protocol j.transition fit j.cube.width j.cube.lits fits_cube x own) (has_choices j.protocol j.transition fit j.cube.width j.cube.lits fits_cube x own l at)))));
        bounded = all_wider greatest_expanded most_bound j.cube.lits (omega arith) stands.job.cube.bounded;
      }
