use Rattle.log_tables.proofs.Staying.{goes_on_stays, leads_on}
use Rattle.log_tables.proofs.changing.admit.Goals as goal

pub returns-in_err-push-in-Ok-clause-stays : goal.returns-in_err-push-in-Ok-clause-stays
returns-in_err-push-in-Ok-clause-stays g c = goes_on_stays c.args.log.now c.admit.new.self c.nodes-before.ensures.legal c.nodes-behind.ensures.legal (leads_on c.args.log.now _ c.admit.new.self c.in-Ok.ensures.legal)

pub returns-in_err-push_mark-in-Ok-clause-stays : goal.returns-in_err-push_mark-in-Ok-clause-stays
returns-in_err-push_mark-in-Ok-clause-stays g c = goes_on_stays c.args.log.now c.admit.new.self c.nodes-before.ensures.legal c.nodes-behind.ensures.legal (leads_on c.args.log.now _ c.admit.new.self c.in-Ok.ensures.legal)

pub returns-in-Ok-clause-stays : goal.returns-in-Ok-clause-stays
returns-in-Ok-clause-stays g c = goes_on_stays c.args.log.now c.admit.new.self c.nodes-before.ensures.legal c.nodes-behind.ensures.legal (leads_on c.args.log.now _ c.admit.new.self c.in-Ok.ensures.legal)
