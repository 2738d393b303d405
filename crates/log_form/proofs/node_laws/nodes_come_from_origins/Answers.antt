use Rattle.log_form.proofs.Weave.{legal_woven}
use Rattle.log_form.proofs.node_laws.nodes_come_from_origins.Goals as goal

pub returns : goal.returns
returns g c log i legal = (legal_woven g.M.PreImages.pieces log legal).origins i
