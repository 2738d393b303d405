use Rattle.cub_types.proofs.OneReading.{no_fault as the_law}
use Rattle.cub_types.proofs.laws.no_fault.Goals as goal

pub returns : goal.returns
returns c = the_law
