use Rattle.cub_types.proofs.OneReading.{one_fault as the_law}
use Rattle.cub_types.proofs.laws.one_fault.Goals as goal

pub returns : goal.returns
returns c = the_law
