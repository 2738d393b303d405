use Rattle.trace_laws.proofs.Runs.{accepted, free_legal}
use Rattle.trace_laws.proofs.Few.{few_events}
use Rattle.trace_laws.proofs.Fit.{legal_fit}
use Rattle.trace_laws.specs.Blocked.{with_crashes}
use Rattle.trace_laws.proofs.laws.steps_make_traces.Goals as goal

pub returns-clause-accepted : goal.returns-clause-accepted
returns-clause-accepted c p s steps goal_number places start leads = accepted p s steps goal_number places start leads

pub returns-clause-few : goal.returns-clause-few
returns-clause-few c p s steps goal_number places leads = few_events p s steps leads.firings leads.free

pub returns-clause-fit : goal.returns-clause-fit
returns-clause-fit c p s steps goal_number places leads = legal_fit p s (with_crashes p s steps) (free_legal p s steps leads.free)
