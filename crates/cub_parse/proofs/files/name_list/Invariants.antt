use Rattle.std.proofs.Common.{◌-◌}
use Rattle.cub_parse.specs.Parsing.{maybe, word}
use Rattle.cub_parse.proofs.Loop.{Goes}
use Rattle.std.proofs.Common.{◌∷◌, []}
use Rattle.cub_lexer.specs.declared.token.TokenKind.TheVariants as k
use Rattle.cub_parse.proofs.files.name_list.Given as goal

abbrev pub invariant-loop : goal.invariant-loop
invariant-loop l = Goes (maybe (k.Name ∷ []) (word k.Name)) l.leaves l.found (l.end - l.counter) l.rest
