use Rattle.std.proofs.Common.{◌≡◌, take}
use Rattle.std.specs.List.{flat_map}
use Rattle.cub_types.specs.Joined.{update_at}
use Rattle.cub_types.proofs.joined.updates_of.Given as goal

abbrev pub invariant-loop-target : goal.invariant-loop-target
invariant-loop-target l = l.updates ≡ flat_map (update_at l.params l.kept) (take l.target-index l.targets)
