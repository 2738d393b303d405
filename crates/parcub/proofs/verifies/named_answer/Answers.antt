use Rattle.io_edge.proofs.Asked.{asks_first}
use Rattle.parcub.proofs.verifies.named_answer.Goals as goal

pub returns-in_ok-certificate_answer-in-Ok-clause-asked : goal.returns-in_ok-certificate_answer-in-Ok-clause-asked
returns-in_ok-certificate_answer-in-Ok-clause-asked g c = asks_first _ _ _ _ _ c.load.ensures.asked

pub returns-in_ok-at_long_certificate-in-Err-TooLong-clause-asked : goal.returns-in_ok-at_long_certificate-in-Err-TooLong-clause-asked
returns-in_ok-at_long_certificate-in-Err-TooLong-clause-asked g c = asks_first _ _ _ _ _ c.load.ensures.asked
