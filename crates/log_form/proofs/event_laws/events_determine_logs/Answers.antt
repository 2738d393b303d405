use Rattle.log_form.proofs.Weave.{legal_woven}
use Rattle.log_form.proofs.Unique.{one_after, one_log}
use Rattle.log_form.proofs.event_laws.events_determine_logs.Goals as goal

pub returns-clause-event : goal.returns-clause-event
returns-clause-event g c log event a b legal = one_after g.M.PreImages.pieces log event a b (legal_woven g.M.PreImages.pieces log legal).few

pub returns-clause-log : goal.returns-clause-log
returns-clause-log g c = one_log g.M.PreImages.pieces
