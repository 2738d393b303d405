use Rattle.log_form.proofs.Weave.{legal_woven}
use Rattle.log_form.proofs.node_laws.links_are_first_covers.Goals as goal

pub returns : goal.returns
returns g c log i legal below = (legal_woven g.M.PreImages.pieces log legal).links i below
