use Rattle.std.proofs.Common.{◌≡◌, ◌++◌, map}
use Rattle.std.specs.List.{range_with_len}
use Rattle.cub_proto.specs.declared.state.Slot.{Slot}
use Rattle.trace_build.specs.Picks.{picks_at}
use Rattle.trace_build.proofs.picking.push_cells.Given as goal

abbrev pub invariant-loop-process : goal.invariant-loop-process
invariant-loop-process l = l.picks ≡ l.fn.picks ++ picks_at l.choices l.processes (map (λ i. Slot.Cell l.array i) (range_with_len 0 l.process))
