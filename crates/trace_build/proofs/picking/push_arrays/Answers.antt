use Rattle.std.proofs.Common.{map}
use Rattle.std.specs.List.{range_with_len}
use Rattle.cub_proto.specs.declared.state.Slot.{Slot}
use Rattle.trace_build.proofs.PickLemmas.{grown, picks_rows}
use Rattle.trace_build.proofs.picking.push_arrays.Goals as goal

pub loop-array-preserved : goal.loop-array-preserved
loop-array-preserved c =
    grown c.args.picks.now c.loop-array.picks c.push_cells.new.picks _ _ _ c.in_ok-push_cells.ensures c.loop-array.invariant
    (picks_rows c.args.choices.now c.args.processes.now (λ a. map (λ i. Slot.Cell a i) (range_with_len 0 c.args.count)) c.loop-array.array)
