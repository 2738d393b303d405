use Rattle.std.proofs.Common.{◌-◌}
use Rattle.cub_parse.specs.Parsing.{next_case}
use Rattle.cub_parse.proofs.Loop.{Goes}
use Rattle.cub_parse.proofs.updates.branches.Given as goal

abbrev pub invariant-loop : goal.invariant-loop
invariant-loop l = Goes (next_case l.levels) l.leaves l.found (l.end - l.counter) l.rest
