use Rattle.std.proofs.Common.{sym, ◌∙◌, arith}
use Rattle.replay.specs.Fault.{is_blocking}
use Rattle.cub_base.proofs.Searches.{find_range_yes, find_range_no, find_range_none}
use Rattle.replay.proofs.fault_at.first_blocking.Goals as goal

pub returns-then-is_blocking : goal.returns-then-is_blocking
returns-then-is_blocking c =
    let p = is_blocking c.args.state.now c.args.transition.now.others c.args.params.now in
    sym (find_range_yes p c.loop-process.process c.processes-process-end.result c.loop-process-test.true (sym c.if-is_blocking.ensures))
    ∙ c.loop-process.invariant

pub loop-process-preserved : goal.loop-process-preserved
loop-process-preserved c =
    let p = is_blocking c.args.state.now c.args.transition.now.others c.args.params.now in
    sym (find_range_no p c.loop-process.process c.processes-process-end.result c.loop-process-test.true (sym c.if-is_blocking.ensures))
    ∙ c.loop-process.invariant

pub returns : goal.returns
returns c =
    let p = is_blocking c.args.state.now c.args.transition.now.others c.args.params.now in
    sym (find_range_none p c.loop-process.process c.processes-process-end.result (omega arith)) ∙ c.loop-process.invariant
