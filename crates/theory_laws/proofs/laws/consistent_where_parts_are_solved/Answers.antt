use Rattle.theory_laws.proofs.Meeting.{consistent_parts}
use Rattle.theory_laws.proofs.Combined.{parts_consistent}
use Rattle.theory_laws.proofs.laws.consistent_where_parts_are_solved.Goals as goal

pub returns : goal.returns
returns c p width lits fitting = (consistent_parts p width lits fitting.fit, parts_consistent p width lits fitting.fit)
