use Rattle.log_tables.proofs.Staying.{goes_on_stays}
use Rattle.log_tables.proofs.judging.commit.Goals as goal

pub returns-in-Ok-clause-stays : goal.returns-in-Ok-clause-stays
returns-in-Ok-clause-stays g c = goes_on_stays c.args.log.now c.apply-answer.new.self c.nodes-before.ensures.legal c.nodes-behind.ensures.legal c.apply-answer.ensures.later
