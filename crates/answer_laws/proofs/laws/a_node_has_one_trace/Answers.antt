use Rattle.answer_laws.proofs.OneTrace.{one_trace}
use Rattle.answer_laws.proofs.laws.a_node_has_one_trace.Goals as goal

pub returns : goal.returns
returns c = one_trace
