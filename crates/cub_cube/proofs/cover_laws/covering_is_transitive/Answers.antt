use Rattle.cub_cube.proofs.Covering.{covers_further}
use Rattle.cub_cube.proofs.cover_laws.covering_is_transitive.Goals as goal

pub returns : goal.returns
returns c = covers_further
