use Rattle.std.proofs.Common.{◌≡◌, ◌++◌, take}
use Rattle.std.specs.Prelude.{flat_map}
use Rattle.cub_print.specs.Mark.{spelled}
use Rattle.cub_print.specs.Printed.{update_marks}
use Rattle.cub_print.proofs.updates.put_updates.Given as goal

abbrev pub invariant-loop-update : goal.invariant-loop-update
invariant-loop-update l = l.out ≡ l.initial.out ++ spelled (flat_map (update_marks l.protocol l.params) (take l.update-index l.updates))
