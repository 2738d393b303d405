use Rattle.parcub.proofs.OneAnswer.{one_answer as the_law}
use Rattle.parcub.proofs.laws.one_answer.Goals as goal

pub returns : goal.returns
returns c = the_law
