use Rattle.cub_cube.proofs.Steps.{term_after}
use Rattle.cub_cube.proofs.step_laws.fired_updates_terms.Goals as goal

pub returns : goal.returns
returns c = term_after
