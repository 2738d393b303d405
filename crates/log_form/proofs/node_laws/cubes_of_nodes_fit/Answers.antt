use Rattle.std.proofs.Common.{subst}
use Rattle.log_form.specs.Pieces.{IsFit, widest}
use Rattle.log_form.specs.Log.{node_at}
use Rattle.log_form.specs.Depth.{bound_at}
use Rattle.log_form.proofs.Weave.{legal_woven}
use Rattle.log_form.proofs.Depths.{sound_at, askable_at, one_depth}
use Rattle.log_form.proofs.node_laws.cubes_of_nodes_fit.Goals as goal

pub returns-clause-fit : goal.returns-clause-fit
returns-clause-fit g c log i d legal below has =
    let m = g.M.PreImages in
    let sound = sound_at m.pieces m.possible m.fit log (legal_woven m.pieces log legal) i below in
    subst (λ e. IsFit log.protocol widest (bound_at e) (node_at log.nodes i).cube) (one_depth log.nodes i sound.depth d sound.has has) sound.fit

pub returns-clause-possible : goal.returns-clause-possible
returns-clause-possible g c log i legal below =
    let m = g.M.PreImages in (sound_at m.pieces m.possible m.fit log (legal_woven m.pieces log legal) i below).possible

pub returns-clause-askable : goal.returns-clause-askable
returns-clause-askable g c log i legal below =
    let m = g.M.PreImages in askable_at m.pieces m.possible m.fit log (legal_woven m.pieces log legal) i below
