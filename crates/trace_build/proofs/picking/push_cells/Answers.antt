use Rattle.cub_proto.specs.declared.state.Slot.{Slot}
use Rattle.trace_build.proofs.PickLemmas.{grown, picks_next}
use Rattle.trace_build.proofs.picking.push_cells.Goals as goal

pub loop-process-preserved : goal.loop-process-preserved
loop-process-preserved c =
    grown c.args.picks.now c.loop-process.picks c.push_pick.new.picks _ _ _ c.in_ok-push_pick.ensures c.loop-process.invariant
    (picks_next c.args.choices.now c.args.processes.now (λ i. Slot.Cell c.args.array i) c.loop-process.process)
