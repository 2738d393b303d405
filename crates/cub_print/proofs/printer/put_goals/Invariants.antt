use Rattle.std.proofs.Common.{◌≡◌, ◌++◌, take}
use Rattle.std.specs.Prelude.{flat_map}
use Rattle.cub_print.specs.Mark.{spelled}
use Rattle.cub_print.specs.Printed.{goal_marks}
use Rattle.cub_print.proofs.printer.put_goals.Given as goal

abbrev pub invariant-loop-one : goal.invariant-loop-one
invariant-loop-one l = l.out ≡ l.initial.out ++ spelled (flat_map (goal_marks l.protocol) (take l.one-index l.goals))
