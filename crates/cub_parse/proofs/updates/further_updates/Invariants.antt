use Rattle.std.proofs.Common.{◌-◌}
use Rattle.cub_parse.specs.Parsing.{next_update}
use Rattle.cub_parse.proofs.Loop.{Goes}
use Rattle.cub_parse.proofs.updates.further_updates.Given as goal

abbrev pub invariant-loop : goal.invariant-loop
invariant-loop l = Goes (next_update l.levels) l.leaves l.found (l.end - l.counter) l.rest
