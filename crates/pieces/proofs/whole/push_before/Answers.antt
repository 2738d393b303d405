use Rattle.std.proofs.Common.{◌≡◌, List, IsTrue, sym, ap, ◌∙◌, subst}
use Rattle.std.specs.Prelude.{map, ◌++◌}
use Rattle.std.specs.List.{list_all}
use Rattle.std.proofs.lemmas.Result.{on_ok_weaker}
use Rattle.cub_proto.specs.declared.literal.Term.{Term}
use Rattle.cub_proto.specs.declared.literal.Value.{Value}
use Rattle.cub_proto.specs.declared.literal.Lit.{Lit}
use Rattle.piece_steps.specs.Steps.{Draft}
use Rattle.cub_proto.specs.StateOf.{signature_of}
use Rattle.cub_cube.specs.Replace.{replaced, can_replace_all}
use Rattle.updates.specs.Chosen.{value_in, taken_value}
use Rattle.pieces.proofs.whole.push_before.Goals as goal

pub push_replaced-requires-clause-can : goal.push_replaced-requires-clause-can
push_replaced-requires-clause-can c =
    let d = c.args.work.now in
    let sig = signature_of c.args.protocol.now in
    let updates = c.args.updates.now in
    let params = c.as_slice.ensures.value ∙ ap (λ e. e.params) c.work.view_is in
    let choices = c.as_slice-2.ensures.value ∙ ap (λ e. e.choices) c.work.view_is in
    let values : c.as_slice-3.result.now ≡ map (taken_value updates d.params) d.choices =
    c.as_slice-3.ensures.value ∙ c.in_ok-fill_values.ensures ∙ ap (λ ps. map (taken_value updates ps) c.as_slice-2.result.now) params ∙ ap (map (taken_value updates d.params)) choices in
    let width = c.from.ensures ∙ ap (λ e. e.width) c.work.view_is in
    subst (λ w. IsTrue (list_all (can_replace_all sig w (value_in c.args.terms.now c.as_slice-3.result.now)) c.args.more.now)) (sym width)
    (subst (λ (ts : List Term). IsTrue (list_all (can_replace_all sig d.width (value_in ts c.as_slice-3.result.now)) c.args.more.now)) (sym c.requires.terms)
    (subst (λ (vs : List Value). IsTrue (list_all (can_replace_all sig d.width (value_in (map (λ e. e.term) d.choices) vs)) c.args.more.now)) (sym values) c.requires.can))

pub returns : goal.returns
returns c =
    let d = c.args.work.now in
    let sig = signature_of c.args.protocol.now in
    let updates = c.args.updates.now in
    let params = c.as_slice.ensures.value ∙ ap (λ e. e.params) c.work.view_is in
    let choices = c.as_slice-2.ensures.value ∙ ap (λ e. e.choices) c.work.view_is in
    let values : c.as_slice-3.result.now ≡ map (taken_value updates d.params) d.choices =
    c.as_slice-3.ensures.value ∙ c.in_ok-fill_values.ensures ∙ ap (λ ps. map (taken_value updates ps) c.as_slice-2.result.now) params ∙ ap (map (taken_value updates d.params)) choices in
    on_ok_weaker c.push_replaced.result
    (λ h.
    let lits = h
    ∙ ap (λ e. e.lits ++ map (replaced sig (value_in c.args.terms.now c.as_slice-3.result.now)) c.args.more.now) c.work.view_is
    ∙ ap (λ (ts : List Term). d.lits ++ map (replaced sig (value_in ts c.as_slice-3.result.now)) c.args.more.now) c.requires.terms
    ∙ ap (λ (vs : List Value). d.lits ++ map (replaced sig (value_in (map (λ e. e.term) d.choices) vs)) c.args.more.now) values in
    let with_lits : List Lit → Draft = λ ls. record { params = c.work.inside.params; inner = c.work.inside.inner; width = c.work.inside.width; guard = c.work.inside.guard; others = c.work.inside.others.items; choices = c.work.inside.choices.items; lits = ls } in
    let whole : List Lit = d.lits ++ map (replaced sig (value_in (map (λ x. x.term) d.choices) (map (taken_value updates d.params) d.choices))) c.args.more.now in
    let again : Draft → Draft = λ e. record e { lits = whole } in
    ap with_lits lits ∙ ap again c.work.view_is)
    c.push_replaced.ensures
