use Rattle.cub_lexer.proofs.OneReadingLaws.{one}
use Rattle.cub_lexer.proofs.lexer.one_reading.Goals as goal

pub returns : goal.returns
returns c = λ at t o p r s. one r s
