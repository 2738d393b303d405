use Rattle.std.proofs.Common.{arith}
use Rattle.cub_proto.specs.declared.literal.Term.TheVariants as Term
use Rattle.cub_proto.specs.declared.literal.Lit.TheVariants.{FinIn}
use Rattle.cub_cube.proofs.Adjacent.{falls_at, rises_all}
use Rattle.cub_cube.proofs.normal.subjects_rise.Goals as goal

pub returns-then-not-is_below : goal.returns-then-not-is_below
returns-then-not-is_below c =
    falls_at c.args.lits.now c.loop-at.at (FinIn (Term.Global 0) 0) (FinIn (Term.Global 0) 0) c.is_below.result (omega arith) (omega arith) c.loop-at.invariant
    c.is_below.ensures c.if-not-is_below.true

pub returns : goal.returns
returns c = rises_all c.args.lits.now c.loop-at.at (omega arith) c.loop-at.invariant
