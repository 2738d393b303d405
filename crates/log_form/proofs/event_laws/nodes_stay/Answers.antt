use Rattle.log_form.proofs.Prefixes.{nodes_later}
use Rattle.log_form.proofs.event_laws.nodes_stay.Goals as goal

pub returns : goal.returns
returns g c = nodes_later g.M.PreImages.pieces
