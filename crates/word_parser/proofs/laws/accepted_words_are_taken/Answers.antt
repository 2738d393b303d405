use Rattle.word_parser.proofs.Accepted.{accepted}
use Rattle.word_parser.proofs.laws.accepted_words_are_taken.Goals as goal

pub returns : goal.returns
returns c = λ words request given. (accepted words request given).taken
