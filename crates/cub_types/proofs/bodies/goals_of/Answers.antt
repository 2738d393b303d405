use Rattle.std.proofs.Common.{length, take, sym, ap, ◌∙◌, subst}
use Rattle.cub_types.specs.Typed.{IsTyped}
use Rattle.cub_types.proofs.AllTyped.{goal_is_typed}
use Rattle.cub_types.proofs.bodies.goals_of.Goals as goal

pub goal_tests-requires : goal.goal_tests-requires
goal_tests-requires c =
    subst (λ leaves. IsTyped c.args.names.now.sig (length leaves) c.in-Some.formula) (sym (c.front.ensures ∙ ap (take 4) c.as_slice-leaves.ensures))
    (goal_is_typed c.args.negated c.args.names.now c.args.body.now c.in-Some.formula (sym c.in_ok-formula.ensures.value ∙ c.in-Some.is))
