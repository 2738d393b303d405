use Rattle.std.proofs.Common.{◌≡◌, drop}
use Rattle.cub_names.specs.Checked.{first_of_all}
use Rattle.cub_types.specs.Joined.{long_faults}
use Rattle.cub_types.proofs.joined.long_faults.Given as goal

abbrev pub invariant-loop-target : goal.invariant-loop-target
invariant-loop-target l = first_of_all l.first (long_faults l.params l.kept (drop l.target-index l.targets)) ≡ first_of_all l.fn.first (long_faults l.params l.kept l.targets)
