use Rattle.std.proofs.Common.{◌-◌}
use Rattle.cub_parse.specs.Parsing.{next_step}
use Rattle.cub_parse.proofs.Loop.{Goes}
use Rattle.cub_parse.proofs.sums.steps.Given as goal

abbrev pub invariant-loop : goal.invariant-loop
invariant-loop l = Goes (next_step) l.leaves l.found (l.end - l.counter) l.rest
