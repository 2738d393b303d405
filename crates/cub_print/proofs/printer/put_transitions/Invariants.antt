use Rattle.std.proofs.Common.{◌≡◌, ◌++◌, take}
use Rattle.std.specs.Prelude.{flat_map}
use Rattle.cub_print.specs.Mark.{spelled}
use Rattle.cub_print.specs.Printed.{transition_marks}
use Rattle.cub_print.proofs.printer.put_transitions.Given as goal

abbrev pub invariant-loop-transition : goal.invariant-loop-transition
invariant-loop-transition l = l.out ≡ l.initial.out ++ spelled (flat_map (transition_marks l.protocol) (take l.transition-index l.transitions))
