use Rattle.cub_parse.proofs.Sentences.{none_in_sentence}
use Rattle.cub_parse.proofs.parser.no_fault.Goals as goal

pub returns : goal.returns
returns c = λ ts tree at kind h f. none_in_sentence ts tree at kind h f
