use Rattle.std.proofs.Common.{◌-◌}
use Rattle.cub_parse.specs.Parsing.{next_name}
use Rattle.cub_parse.proofs.Loop.{Goes}
use Rattle.cub_parse.proofs.decls.further_names.Given as goal

abbrev pub invariant-loop : goal.invariant-loop
invariant-loop l = Goes (next_name) l.leaves l.found (l.end - l.counter) l.rest
