use Rattle.theory_laws.proofs.Stating.{made_state}
use Rattle.theory_laws.proofs.laws.solutions_make_a_state.Goals as goal

pub returns : goal.returns
returns c p width n lits v fitting values solve = made_state p width n lits v fitting.fit values solve
