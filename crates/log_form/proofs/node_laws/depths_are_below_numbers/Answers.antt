use Rattle.log_form.proofs.Weave.{legal_woven}
use Rattle.log_form.proofs.Depths.{sound_at, one_depth}
use Rattle.log_form.proofs.node_laws.depths_are_below_numbers.Goals as goal

pub returns-clause-some : goal.returns-clause-some
returns-clause-some g c log i legal below =
    let m = g.M.PreImages in
    let sound = sound_at m.pieces m.possible m.fit log (legal_woven m.pieces log legal) i below in (sound.depth, sound.has, sound.low)

pub returns-clause-one : goal.returns-clause-one
returns-clause-one g c log i d e = one_depth log.nodes i d e
