use Rattle.std.proofs.Common.{arith}
use Rattle.subsume.proofs.Placed.{too_wide}
use Rattle.subsume.proofs.covering.covers_loaded.Goals as goal

pub returns-then-big-small-clause-exact : goal.returns-then-big-small-clause-exact
returns-then-big-small-clause-exact c = too_wide c.args.protocol.now c.args.big.now c.args.small.now (omega arith)
