use Rattle.cover_lines.proofs.OneLemmas.{lines_one}
use Rattle.cover_lines.proofs.laws.cover_lines_are_one.Goals as goal

pub returns : goal.returns
returns c = lines_one
