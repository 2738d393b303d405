use Rattle.cub_proto.specs.StateOf.{signature_of}
use Rattle.cub_cube.specs.Mentions.{terms_in}
use Rattle.piece_steps.proofs.Assembly.{steps_give}
use Rattle.piece_steps.proofs.laws.steps_give_candidates.Goals as goal

pub returns : goal.returns
returns c p cube number t = steps_give (signature_of p) number t cube.width cube.lits (terms_in cube.lits)
