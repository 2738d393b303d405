use Rattle.cube_text.proofs.OneSpelling.{one_spelling, read_lawful}
use Rattle.cube_text.proofs.laws.has_one_spelling.Goals as goal

pub returns-clause-text : goal.returns-clause-text
returns-clause-text c = one_spelling

pub returns-clause-lawful : goal.returns-clause-lawful
returns-clause-lawful c = read_lawful
