use Rattle.cub_cube.proofs.Agreeing.{agree_all_true}
use Rattle.cub_cube.proofs.step_laws.agreeing_places_are_alike.Goals as goal

pub returns : goal.returns
returns c = agree_all_true
