use Rattle.cub_types.proofs.WholeFits.{reads}
use Rattle.cub_types.proofs.laws.no_fault_is_a_protocol.Goals as goal

pub returns : goal.returns
returns c = λ text tree none. reads text tree none
