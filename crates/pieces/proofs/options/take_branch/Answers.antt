use Rattle.std.proofs.Common.{sym, ap, ◌∙◌, arith}
use Rattle.std.specs.Option.{option_copied}
use Rattle.pieces.proofs.UpdateFacts.{few_options, literals_within}
use Rattle.pieces.proofs.options.take_branch.Goals as goal

pub overflow_cast-k : goal.overflow_cast-k
overflow_cast-k c = omega (arith, few_options c.args.protocol.now c.args.transition.now c.args.work.now c.args.i c.requires.fit, c.requires.inside)

pub take_branch-requires-clause-within : goal.take_branch-requires-clause-within
take_branch-requires-clause-within c =
    literals_within c.args.protocol.now c.args.transition.now c.args.work.now c.args.i c.requires.fit c.in-Some.update.now c.args.k (sym c.update_at.ensures ∙ ap option_copied c.in-Some.is)
