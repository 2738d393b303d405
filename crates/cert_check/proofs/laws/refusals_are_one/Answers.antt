use Rattle.cert_check.proofs.Refusing.{one_refusal, one_lined_refusal}
use Rattle.cert_check.proofs.laws.refusals_are_one.Goals as goal

pub returns-clause-test : goal.returns-clause-test
returns-clause-test c = one_refusal

pub returns-clause-lines : goal.returns-clause-lines
returns-clause-lines c = one_lined_refusal
