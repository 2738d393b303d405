use Rattle.cub_types.proofs.WholeFits.{decided}
use Rattle.cub_types.proofs.laws.a_protocol_or_a_fault.Goals as goal

pub returns : goal.returns
returns c = decided
