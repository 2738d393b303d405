use Rattle.std.proofs.Common.{◌≡◌, [], get_or, Some, sym, ap, ◌∙◌, arith}
use Rattle.std.specs.Prelude.{slice_get}
use Rattle.std.specs.Option.{option_map_or}
use Rattle.updates.proofs.Transitions.{at_number, known}
use Rattle.updates.proofs.step.updates_at.Goals as goal

pub returns-clause-value : goal.returns-clause-value
returns-clause-value c =
    let t = c.index-as_slice-transition.result in
    let n = c.args.transition in
    let at : slice_get c.args.protocol.now.transitions n ≡ Some t =
    at_number c.args.protocol.now.transitions n t c.requires (c.index-as_slice-transition.is ∙ ap (λ ts. get_or ts n t) c.as_slice.ensures) in
    c.as_slice-2.ensures ∙ ap (λ y. y.updates) (sym c.index-as_slice-transition.is) ∙ sym (ap (λ o. option_map_or (λ y. y.updates) o []) at)

pub returns-clause-fit : goal.returns-clause-fit
returns-clause-fit c =
    let t = c.index-as_slice-transition.result in
    let n = c.args.transition in
    let at : slice_get c.args.protocol.now.transitions n ≡ Some t =
    at_number c.args.protocol.now.transitions n t c.requires (c.index-as_slice-transition.is ∙ ap (λ ts. get_or ts n t) c.as_slice.ensures) in
    (known c.args.protocol.now n t c.requires at).updates

pub returns-clause-few : goal.returns-clause-few
returns-clause-few c =
    let t = c.index-as_slice-transition.result in
    let n = c.args.transition in
    let at : slice_get c.args.protocol.now.transitions n ≡ Some t =
    at_number c.args.protocol.now.transitions n t c.requires (c.index-as_slice-transition.is ∙ ap (λ ts. get_or ts n t) c.as_slice.ensures) in
    let its = known c.args.protocol.now n t c.requires at in
    let few = its.few in omega arith
