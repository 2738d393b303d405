use Rattle.std.proofs.Common.{◌≤◌, length, arith}
use Rattle.diff_close.specs.Names.{node_of}
use Rattle.diff_close.proofs.Ways.{within_all}
use Rattle.diff_close.proofs.tests.is_among.Goals as goal

pub returns : goal.returns
returns c holds = within_all c.args.terms.now c.args.side.now (omega (arith, c.if-node-terms.false, c.node.ensures))
