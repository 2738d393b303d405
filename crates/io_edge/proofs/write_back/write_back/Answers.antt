use Rattle.io_edge.proofs.Asked.{asks_first}
use Rattle.io_edge.proofs.write_back.write_back.Goals as goal

pub returns-in-Ok-clause-asked : goal.returns-in-Ok-clause-asked
returns-in-Ok-clause-asked g c = asks_first _ _ _ _ _ c.load.ensures.asked
