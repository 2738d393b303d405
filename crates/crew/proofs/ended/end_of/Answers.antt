use Rattle.std.proofs.Common.{sym}
use Rattle.crew.proofs.Ending.{wide_end, safe_end}
use Rattle.crew.proofs.Stepping.{nodes_few}
use Rattle.crew.proofs.ended.end_of.Goals as goal

pub least_wide-requires : goal.least_wide-requires
least_wide-requires c = nodes_few c.args.log c.nodes.result.now c.nodes.ensures.legal c.nodes.ensures.value

pub returns-in-Some-clause-verdict : goal.returns-in-Some-clause-verdict
returns-in-Some-clause-verdict c = wide_end c.args.log c.budget.result c.nodes.result.now c.budget.ensures c.nodes.ensures.value (sym c.in-Going.ensures) c.requires c.in-Some.number c.in-Some.ensures

pub returns-in-None-clause-verdict : goal.returns-in-None-clause-verdict
returns-in-None-clause-verdict c = safe_end c.args.log c.budget.result c.nodes.result.now c.budget.ensures c.nodes.ensures.value (sym c.in-Going.ensures) c.requires c.in-None.ensures
