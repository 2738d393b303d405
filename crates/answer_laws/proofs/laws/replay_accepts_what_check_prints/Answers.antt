use Rattle.answer_laws.proofs.Traces.{replay_accepts}
use Rattle.answer_laws.proofs.laws.replay_accepts_what_check_prints.Goals as goal

pub returns : goal.returns
returns c = replay_accepts
