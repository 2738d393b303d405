use Rattle.log_form.proofs.Weave.{legal_woven}
use Rattle.log_form.proofs.Lives.{live_apart}
use Rattle.log_form.proofs.node_laws.live_nodes_stay_apart.Goals as goal

pub returns-clause-later : goal.returns-clause-later
returns-clause-later g c log i j legal = (legal_woven g.M.PreImages.pieces log legal).fresh i j

pub returns-clause-live : goal.returns-clause-live
returns-clause-live g c log i j legal = live_apart g.M.PreImages.pieces log (legal_woven g.M.PreImages.pieces log legal) i j
