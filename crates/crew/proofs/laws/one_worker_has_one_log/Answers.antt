use Rattle.crew.proofs.OneLog.{one_log}
use Rattle.crew.proofs.laws.one_worker_has_one_log.Goals as goal

pub returns : goal.returns
returns c = one_log
