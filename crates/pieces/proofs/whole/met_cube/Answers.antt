use Rattle.std.proofs.Common.{List, drop, sym, ap, ◌∙◌}
use Rattle.cub_proto.specs.declared.literal.Lit.{Lit}
use Rattle.pieces.specs.Alone.{may_be_met}
use Rattle.pieces.proofs.Refuting.{never_met}
use Rattle.pieces.proofs.whole.met_cube.Goals as goal

pub returns-then-not-may_be_met-clause-none : goal.returns-then-not-may_be_met-clause-none
returns-then-not-may_be_met-clause-none c =
    never_met c.args.protocol.now c.args.width c.args.from c.args.lits.now c.requires.fitting.fit
    (ap (λ (ls : List Lit). may_be_met (drop c.args.from ls)) (sym c.as_slice.ensures) ∙ sym c.may_be_met.ensures ∙ c.if-not-may_be_met.true)
