use Rattle.trace_laws.proofs.ChainFits.{cubes_fit}
use Rattle.trace_laws.proofs.laws.cubes_of_chains_fit.Goals as goal

pub returns : goal.returns
returns c p chain link is at = cubes_fit p chain link is at
