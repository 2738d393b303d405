use Rattle.std.proofs.Common.{◌≡◌, drop}
use Rattle.cub_names.specs.Checked.{first_of_all}
use Rattle.cub_names.specs.Declarations.{at_each}
use Rattle.cub_names.proofs.first.tell_each.Given as goal

abbrev pub invariant-loop-leaf : goal.invariant-loop-leaf
invariant-loop-leaf l = first_of_all l.first (at_each l.kind (drop l.leaf-index l.leaves)) ≡ first_of_all l.fn.first (at_each l.kind l.leaves)
