use Rattle.std.proofs.Common.{◌≡◌, ◌+◌, ◌-◌, ◌*◌, ◌<◌, drop, get_or, arith}
use Rattle.std.proofs.lemmas.List.{at_drop_more}
use Rattle.cub_lexer.specs.Number.{value_from, value_of}
use Rattle.cub_lexer.proofs.NumberLaws.{value_grows}
use Rattle.cub_lexer.proofs.numbers.number_value.Goals as goal

pub returns-then-value-from-clause-none : goal.returns-then-value-from-clause-none
returns-then-value-from-clause-none c =
    let xs = c.args.digits.now in
    let i = c.loop-digit.digit-index in
    let next = 10 * c.loop-digit.value + (get_or xs i 0 - 48) in
    let step = at_drop_more (value_from c.loop-digit.value) xs i 0 (omega arith) in
    omega (arith, c.loop-digit.invariant.0, step, value_grows next (drop (i + 1) xs))
