use Rattle.cub_types.proofs.OneReading.{one_protocol as the_law}
use Rattle.cub_types.proofs.laws.one_protocol.Goals as goal

pub returns : goal.returns
returns c = the_law
