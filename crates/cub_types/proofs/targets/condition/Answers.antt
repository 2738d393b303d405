use Rattle.std.proofs.Common.{false, sym, ◌∙◌}
use Rattle.cub_types.proofs.AllTyped.{form_is_typed}
use Rattle.cub_types.proofs.targets.condition.Goals as goal

pub normalized-requires : goal.normalized-requires
normalized-requires c =
    form_is_typed false c.args.names.now c.args.scope.now c.args.width c.args.node.now.cond c.in-Some.formula c.requires.scope (sym c.in_ok-formula.ensures.value ∙ c.in-Some.is)
