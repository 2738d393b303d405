use Rattle.log_form.proofs.Finished.{passes, safe_is, live_narrow}
use Rattle.log_form.proofs.verdict_laws.safe_logs_pass_the_test.Goals as goal

pub returns-clause-passes : goal.returns-clause-passes
returns-clause-passes g c = passes g.M.PreImages.pieces

pub returns-clause-narrow : goal.returns-clause-narrow
returns-clause-narrow g c log i legal says = live_narrow log (safe_is log says) i
