use Rattle.cub_cube.proofs.Placing.{identity}
use Rattle.cub_cube.proofs.Covering.{covers_itself}
use Rattle.cub_cube.proofs.cover_laws.covering_is_reflexive.Goals as goal

pub returns : goal.returns
returns c p cube = (identity cube.width, covers_itself p cube)
