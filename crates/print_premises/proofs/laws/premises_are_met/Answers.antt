use Rattle.print_premises.proofs.ReadRest.{names_plain, bodies_normal}
use Rattle.print_premises.proofs.laws.premises_are_met.Goals as goal

pub returns-clause-names : goal.returns-clause-names
returns-clause-names c = names_plain

pub returns-clause-bodies : goal.returns-clause-bodies
returns-clause-bodies c = bodies_normal
