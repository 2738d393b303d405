use Rattle.check_answers.proofs.OneTold.{one_answer}
use Rattle.check_answers.proofs.laws.answers_are_one.Goals as goal

pub returns : goal.returns
returns c = one_answer
