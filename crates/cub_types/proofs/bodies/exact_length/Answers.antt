use Rattle.std.proofs.Common.{arith}
use Rattle.cub_types.proofs.bodies.exact_length.Goals as goal

pub returns-clause-value : goal.returns-clause-value
returns-clause-value c = c.count.ensures c.args.names.now.sig

pub returns-clause-small : goal.returns-clause-small
returns-clause-small c = let same = c.count.ensures c.args.names.now.sig in omega (arith, same)
