use Rattle.cub_types.proofs.FirstOfAll.{first_is_least as the_law}
use Rattle.cub_types.proofs.laws.kept_fault_is_first.Goals as goal

pub returns : goal.returns
returns c = the_law
