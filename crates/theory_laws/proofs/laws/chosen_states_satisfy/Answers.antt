use Rattle.theory_laws.proofs.Choosing.{chosen_fulfils}
use Rattle.theory_laws.proofs.laws.chosen_states_satisfy.Goals as goal

pub returns : goal.returns
returns c p width lits s fitting chosen = chosen_fulfils p width lits s fitting.fit chosen
