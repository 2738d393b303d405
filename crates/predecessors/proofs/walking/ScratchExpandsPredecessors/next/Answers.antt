use Rattle.predecessors.proofs.WalkLemmas.{next_askable}
use Rattle.predecessors.proofs.walking.ScratchExpandsPredecessors.next.Goals as goal

pub returns-in-Some-clause-askable : goal.returns-in-Some-clause-askable
returns-in-Some-clause-askable c =
    let (done, given) = c.requires.walk in
    next_askable c.args._protocol.now c.args._cube.now c.requires.fit c.args.walk.now.rest c.pop.new.self c.in-Some.cube c.in-Some.ensures done given
