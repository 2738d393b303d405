use Rattle.std.proofs.Common.{◌≡◌, ◌++◌, map, length}
use Rattle.std.specs.List.{range_with_len}
use Rattle.cub_proto.specs.declared.transition.Target.{Target}
use Rattle.cub_types.proofs.joined.array_targets.Given as goal

abbrev pub invariant-loop-number : goal.invariant-loop-number
invariant-loop-number l = l.all.items ≡ map Target.Array (range_with_len 0 l.number)
