use Rattle.cub_cube.proofs.Covering.{covering_satisfies, covering_meets}
use Rattle.cub_cube.proofs.cover_laws.covered_states_meet.Goals as goal

pub returns-clause-satisfies : goal.returns-clause-satisfies
returns-clause-satisfies c = covering_satisfies

pub returns-clause-meets : goal.returns-clause-meets
returns-clause-meets c p d cube covers = covering_meets p d cube covers.0 covers.1
