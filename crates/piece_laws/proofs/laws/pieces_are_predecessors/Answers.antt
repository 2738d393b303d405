use Rattle.piece_laws.proofs.Predecessors.{predecessors}
use Rattle.piece_laws.proofs.laws.pieces_are_predecessors.Goals as goal

pub returns : goal.returns
returns c p cube number pieces s fits are state = predecessors p cube fits number pieces s are state
