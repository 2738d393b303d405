use Rattle.print_names.proofs.Declared.{declared_is, none_declared}
use Rattle.print_names.proofs.laws.printed_declarations_are_read.Goals as goal

pub returns : goal.returns
returns c = λ p plain. (declared_is p, none_declared p plain)
