use Rattle.std.proofs.Common.{◌∙◌, ap}
use Rattle.word_parser.specs.Found.{number_or}
use Rattle.word_parser.proofs.found.levels_found.Goals as goal

pub returns : goal.returns
returns c = c.number_or.ensures.value ∙ ap (number_or 2 63 2) c.text_found.ensures
