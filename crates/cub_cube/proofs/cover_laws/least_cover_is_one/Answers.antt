use Rattle.cub_cube.proofs.Covering.{least_same}
use Rattle.cub_cube.proofs.cover_laws.least_cover_is_one.Goals as goal

pub returns : goal.returns
returns c = least_same
