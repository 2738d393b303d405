use Rattle.cub_types.specs.Typing.{frame_of}
use Rattle.cub_types.proofs.RestTold.{rest_not_lost}
use Rattle.cub_types.proofs.laws.nothing_is_lost.Goals as goal

pub returns : goal.returns
returns c = λ text tree e k. rest_not_lost (frame_of text tree) tree.init tree.rests e k
