use Rattle.std.proofs.Common.{◌≡◌, ◌++◌, map}
use Rattle.std.specs.List.{range_with_len}
use Rattle.cub_proto.specs.declared.state.Slot.{Slot}
use Rattle.trace_build.specs.Picks.{picks_at}
use Rattle.trace_build.proofs.picking.push_globals.Given as goal

abbrev pub invariant-loop-global : goal.invariant-loop-global
invariant-loop-global l = l.picks ≡ l.fn.picks ++ picks_at l.choices l.processes (map (λ g. Slot.Global g) (range_with_len 0 l.global))
