use Rattle.trace_judge.proofs.OneJudgement.{no_reason as the_law}
use Rattle.trace_judge.proofs.laws.no_reason.Goals as goal

pub returns : goal.returns
returns c = the_law
