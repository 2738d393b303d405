use Rattle.log_form.proofs.StaleLemmas.{stale_legal}
use Rattle.log_form.proofs.event_laws.stale_lists_are_mended.Goals as goal

pub returns : goal.returns
returns g c log seen pieces picks kept legal going = stale_legal g.M.PreImages.pieces log legal going seen pieces picks kept
