use Rattle.theory_laws.proofs.Starting.{joined_fitting}
use Rattle.theory_laws.proofs.laws.start_literals_fit.Goals as goal

pub returns : goal.returns
returns c p width lits fitting = joined_fitting p width lits fitting
