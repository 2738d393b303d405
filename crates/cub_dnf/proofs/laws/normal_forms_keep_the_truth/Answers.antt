use Rattle.cub_dnf.proofs.Truths.{same_truth}
use Rattle.cub_dnf.proofs.laws.normal_forms_keep_the_truth.Goals as goal

pub returns-clause-own : goal.returns-clause-own
returns-clause-own c = λ p s places f state processes ready. (same_truth p s places state processes f ready).0

pub returns-clause-opposite : goal.returns-clause-opposite
returns-clause-opposite c = λ p s places f state processes ready. (same_truth p s places state processes f ready).1
