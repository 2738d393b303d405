use Rattle.update_premises.proofs.WholeMeets.{literals_writable, guards_normal, conditions_normal, names_plain}
use Rattle.update_premises.proofs.laws.update_premises_are_met.Goals as goal

pub returns-clause-writable : goal.returns-clause-writable
returns-clause-writable c = literals_writable

pub returns-clause-guards : goal.returns-clause-guards
returns-clause-guards c = guards_normal

pub returns-clause-conditions : goal.returns-clause-conditions
returns-clause-conditions c = conditions_normal

pub returns-clause-names : goal.returns-clause-names
returns-clause-names c = names_plain
