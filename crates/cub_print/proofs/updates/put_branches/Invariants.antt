use Rattle.std.proofs.Common.{◌≡◌, ◌++◌, take}
use Rattle.std.specs.Prelude.{flat_map}
use Rattle.cub_print.specs.Mark.{spelled}
use Rattle.cub_print.specs.Printed.{branch_marks}
use Rattle.cub_print.proofs.updates.put_branches.Given as goal

abbrev pub invariant-loop-branch : goal.invariant-loop-branch
invariant-loop-branch l = l.out ≡ l.initial.out ++ spelled (flat_map (branch_marks l.protocol l.params l.target) (take l.branch-index l.branches))
