use Rattle.std.proofs.Common.{refl}
use Rattle.trace_judge.proofs.Judging.{no_step}
use Rattle.trace_judge.proofs.judge.unsafe_run.Goals as goal

pub returns-in-Err-clause-refused : goal.returns-in-Err-clause-refused
returns-in-Err-clause-refused c = λ plain. no_step _ _ _ _ _ _ _ c.in-Ok.ensures.start c.in-Ok.ensures.ok refl c.in-Err.ensures.refused
