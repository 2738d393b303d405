use Rattle.std.proofs.Common.{sym}
use Rattle.crew.proofs.Ending.{next_or_verdict}
use Rattle.crew.proofs.searching.next_node.Goals as goal

pub returns-in-Going-clause-none : goal.returns-in-Going-clause-none
returns-in-Going-clause-none c = next_or_verdict c.args.log.now c.next_waiting.result (sym c.in-Going.ensures) c.next_waiting.ensures
