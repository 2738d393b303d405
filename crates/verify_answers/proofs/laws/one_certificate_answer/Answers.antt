use Rattle.verify_answers.proofs.OneVerdict.{one_answer}
use Rattle.verify_answers.proofs.laws.one_certificate_answer.Goals as goal

pub returns : goal.returns
returns c = one_answer
