use Rattle.io_edge.proofs.Asked.{asks_first}
use Rattle.parcub.proofs.checks.checked_answer.Goals as goal

pub returns-in_ok-bytes_answer-in-Ok-clause-asked : goal.returns-in_ok-bytes_answer-in-Ok-clause-asked
returns-in_ok-bytes_answer-in-Ok-clause-asked g c = asks_first _ _ _ _ _ c.load.ensures.asked
