use Rattle.log_tables.proofs.Staying.{goes_on_stays}
use Rattle.log_tables.proofs.changing.expand.Goals as goal

pub returns-clause-stays : goal.returns-clause-stays
returns-clause-stays g c = goes_on_stays c.args.log.now c.expand-answer.new.self c.nodes-before.ensures.legal c.nodes-behind.ensures.legal c.expand-answer.ensures.later
