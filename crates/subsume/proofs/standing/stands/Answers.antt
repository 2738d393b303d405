use Rattle.std.proofs.Common.{arith}
use Rattle.subsume.proofs.Alone.{no_place}
use Rattle.subsume.proofs.standing.stands.Goals as goal

pub returns-clause-none : goal.returns-clause-none
returns-clause-none c h =
    no_place c.args.protocol.now c.args.big.now c.args.small.now c.args.k c.loop-c.c c.requires.inside (omega arith) c.loop-c.invariant.tried
