use Rattle.trace_judge.proofs.OneJudgement.{one_reason as the_law}
use Rattle.trace_judge.proofs.laws.one_reason.Goals as goal

pub returns : goal.returns
returns c = the_law
