use Rattle.check_answers.proofs.Verdicts.{zero_is_safe, one_or_two_refutes}
use Rattle.check_answers.proofs.laws.safe_and_unsafe_exclude.Goals as goal

pub returns : goal.returns
returns c p a b format other_format other text another first second either = one_or_two_refutes p b other_format other another second either (zero_is_safe p a format text first)
