use Rattle.std.proofs.Common.{◌≡◌, ℕ, map}
use Rattle.std.specs.List.{range_with_len}
use Rattle.sample_gen.specs.Sample.{level_name}
use Rattle.sample_gen.proofs.levels.level_names.Given as goal

abbrev pub invariant-loop-level : goal.invariant-loop-level
invariant-loop-level l = l.names ≡ map level_name (range_with_len 0 l.level)
