use Rattle.cub_cube.proofs.Placing.{along_satisfies}
use Rattle.cub_cube.proofs.form_laws.composed_places_satisfy.Goals as goal

pub returns : goal.returns
returns c = along_satisfies
