use Rattle.theory_laws.proofs.Starting.{starts_are_consistent, consistent_starts}
use Rattle.theory_laws.proofs.laws.start_states_meet.Goals as goal

pub returns : goal.returns
returns c p width lits fitting = (starts_are_consistent p width lits fitting, consistent_starts p width lits fitting)
