use Rattle.std.proofs.Common.{◌≡◌, subst, ap, ◌∙◌}
use Rattle.std.specs.Prelude.{IfOk, false}
use Rattle.cub_names.specs.Scope.{locals}
use Rattle.cub_names.specs.Checked.{first_of_all}
use Rattle.cub_types.specs.Bodies.{body_form, turned}
use Rattle.cub_types.proofs.Fronts.{on_ok}
use Rattle.cub_types.proofs.bodies.goal_form.Goals as goal

pub returns-clause-value : goal.returns-clause-value
returns-clause-value c =
    let same = c.as_slice-2.ensures ∙ c.in_ok-scope.ensures.value ∙ ap (locals 4) c.as_slice.ensures in
    subst (λ v. IfOk c.turned.result (λ formula. formula ≡ turned c.args.negated v))
    (c.in_ok-found.ensures.value ∙ ap (λ s. (body_form false c.args.names.now s c.args.body.now.formula).value) same) c.turned.ensures

pub returns-clause-first : goal.returns-clause-first
returns-clause-first c =
    let same = c.as_slice-2.ensures ∙ c.in_ok-scope.ensures.value ∙ ap (locals 4) c.as_slice.ensures in
    on_ok _ c.turned.result
    (c.in_ok-found.ensures.first ∙ ap (λ s. first_of_all c.args.first.now (body_form false c.args.names.now s c.args.body.now.formula).faults) same)
