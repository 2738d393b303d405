use Rattle.theory_laws.proofs.Meeting.{entailed_is}
use Rattle.theory_laws.proofs.laws.entailed_where_negation_fails.Goals as goal

pub returns : goal.returns
returns c p width lits lit fits = entailed_is p width lits lit fits
