use Rattle.cub_print.proofs.TokenLaws.{marks_are_read}
use Rattle.cub_print.proofs.laws.marks_are_read.Goals as goal

pub returns : goal.returns
returns c = marks_are_read
