use Rattle.cub_lexer.proofs.WordLaws.{reserved}
use Rattle.cub_lexer.proofs.laws.reserved_words_are_no_names.Goals as goal

pub returns : goal.returns
returns c = λ w. reserved w
