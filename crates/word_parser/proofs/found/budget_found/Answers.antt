use Rattle.std.proofs.Common.{◌∙◌, ap}
use Rattle.word_parser.specs.Found.{number_or}
use Rattle.word_parser.proofs.found.budget_found.Goals as goal

pub returns-clause-cubes : goal.returns-clause-cubes
returns-clause-cubes c = c.number_or.ensures.value ∙ ap (number_or 1 65536 4096) c.text_found.ensures

pub returns-clause-width : goal.returns-clause-width
returns-clause-width c = c.number_or-2.ensures.value ∙ ap (number_or 1 8 6) c.text_found-2.ensures
