use Rattle.std.proofs.Common.{◌≡◌, ◌++◌, map}
use Rattle.std.specs.List.{range_with_len, flat_map}
use Rattle.cub_proto.specs.declared.state.Slot.{Slot}
use Rattle.trace_build.specs.Picks.{picks_at}
use Rattle.trace_build.proofs.picking.push_arrays.Given as goal

abbrev pub invariant-loop-array : goal.invariant-loop-array
invariant-loop-array l =
    l.picks ≡ l.fn.picks ++ picks_at l.choices l.processes (flat_map (λ a. map (λ i. Slot.Cell a i) (range_with_len 0 l.count)) (range_with_len 0 l.array))
