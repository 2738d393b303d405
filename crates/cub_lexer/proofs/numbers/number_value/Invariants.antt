use Rattle.std.proofs.Common.{◌≡◌, ◌≤◌, drop}
use Rattle.cub_lexer.specs.Number.{value_from, value_of}
use Rattle.cub_lexer.proofs.numbers.number_value.Given as goal

abbrev pub invariant-loop-digit : goal.invariant-loop-digit
invariant-loop-digit l = (value_from l.value (drop l.digit-index l.digits) ≡ value_of l.digits) × (l.value ≤ 1000000000)
