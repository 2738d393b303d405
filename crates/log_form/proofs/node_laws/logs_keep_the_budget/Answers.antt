use Rattle.log_form.proofs.Weave.{legal_woven}
use Rattle.log_form.proofs.node_laws.logs_keep_the_budget.Goals as goal

pub returns-clause-few : goal.returns-clause-few
returns-clause-few g c log legal = (legal_woven g.M.PreImages.pieces log legal).few

pub returns-clause-full : goal.returns-clause-full
returns-clause-full g c log from needed legal = (legal_woven g.M.PreImages.pieces log legal).full from needed
