use Rattle.std.proofs.Common.{◌≤◌, sym, subst}
use Rattle.pieces.specs.Options.{branch_count}
use Rattle.pieces.specs.Jobs.{as_step, IsReady}
use Rattle.pieces.proofs.UpdateFacts.{few_options}
use Rattle.pieces.proofs.options.options_of.Goals as goal

pub branch_count-requires : goal.branch_count-requires
branch_count-requires c =
    let ready = subst (λ s. IsReady c.args.protocol.now c.args.transition.now (as_step s) c.args.work.now) c.in-Branch.is c.requires in
    subst (λ o. branch_count o ≤ 65) (sym c.update_at.ensures) (few_options c.args.protocol.now c.args.transition.now c.args.work.now c.in-Branch.i ready.2)
