use Rattle.log_form.proofs.Prefixes.{legal_first, legal_more}
use Rattle.log_form.proofs.event_laws.legal_events_make_legal_logs.Goals as goal

pub returns-clause-first : goal.returns-clause-first
returns-clause-first g c = legal_first g.M.PreImages.pieces

pub returns-clause-more : goal.returns-clause-more
returns-clause-more g c = legal_more g.M.PreImages.pieces
