use Rattle.theory_laws.proofs.Starting.{chosen_starts}
use Rattle.theory_laws.proofs.laws.chosen_start_states_start.Goals as goal

pub returns : goal.returns
returns c p width lits s fitting some chosen = chosen_starts p width lits s fitting some chosen
