use Rattle.std.proofs.Common.{◌-◌}
use Rattle.cub_parse.specs.Parsing.{next_decl}
use Rattle.cub_parse.proofs.Loop.{Goes}
use Rattle.cub_parse.proofs.decls.decls.Given as goal

abbrev pub invariant-loop : goal.invariant-loop
invariant-loop l = Goes (next_decl) l.leaves l.found (l.end - l.counter) l.rest
