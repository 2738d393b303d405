use Rattle.log_form.proofs.Weave.{legal_woven}
use Rattle.log_form.proofs.Lives.{covered_live}
use Rattle.log_form.proofs.verdict_laws.live_nodes_cover_as_all_do.Goals as goal

pub returns : goal.returns
returns g c log cube legal = covered_live g.M.PreImages.pieces log (legal_woven g.M.PreImages.pieces log legal) cube
