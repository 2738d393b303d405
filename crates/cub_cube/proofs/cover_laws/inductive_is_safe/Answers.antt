use Rattle.cub_cube.proofs.InductiveLemmas.{inductive_safe}
use Rattle.cub_cube.proofs.cover_laws.inductive_is_safe.Goals as goal

pub returns : goal.returns
returns c = inductive_safe
