use Rattle.cert_check.proofs.Refusing.{no_test, no_lines}
use Rattle.cert_check.proofs.laws.refusals_exclude_the_test.Goals as goal

pub returns-clause-test : goal.returns-clause-test
returns-clause-test c = no_test

pub returns-clause-lines : goal.returns-clause-lines
returns-clause-lines c = no_lines
