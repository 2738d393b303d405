use Rattle.log_form.proofs.Weave.{legal_woven}
use Rattle.log_form.proofs.Lives.{live_cover}
use Rattle.log_form.proofs.node_laws.live_nodes_cover_all.Goals as goal

pub returns : goal.returns
returns g c log i legal below =
    let up = live_cover g.M.PreImages.pieces log (legal_woven g.M.PreImages.pieces log legal) i below in (up.by, up.later, up.inside, up.live, up.covers)
