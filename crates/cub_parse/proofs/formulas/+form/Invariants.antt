use Rattle.std.proofs.Common.{◌*◌, ◌+◌, ◌-◌}
use Rattle.cub_lexer.specs.declared.token.TokenKind.TheVariants as k
use Rattle.cub_parse.specs.Parsing.{unit, conj_of, next_joined}
use Rattle.cub_parse.proofs.Loop.{Goes}
use Rattle.cub_parse.proofs.formulas.+form.Given as goal

-- the levels that are left, and within one level the way down from formulas to units
abbrev pub decreases-unit : goal.decreases-unit
decreases-unit l = 8 * l.levels + 0

abbrev pub decreases-next_unit : goal.decreases-next_unit
decreases-next_unit l = 8 * l.levels + 1

abbrev pub decreases-units : goal.decreases-units
decreases-units l = 8 * l.levels + 2

abbrev pub decreases-conj : goal.decreases-conj
decreases-conj l = 8 * l.levels + 3

abbrev pub decreases-next_conj : goal.decreases-next_conj
decreases-next_conj l = 8 * l.levels + 4

abbrev pub decreases-conjs : goal.decreases-conjs
decreases-conjs l = 8 * l.levels + 5

abbrev pub decreases-formula : goal.decreases-formula
decreases-formula l = 8 * l.levels + 6

abbrev pub decreases-group : goal.decreases-group
decreases-group l = 8 * l.levels + 7

abbrev pub decreases-negation : goal.decreases-negation
decreases-negation l = 8 * l.levels + 7

abbrev pub decreases-forall : goal.decreases-forall
decreases-forall l = 8 * l.levels + 7

abbrev pub invariant-units-loop : goal.invariant-units-loop
invariant-units-loop l = Goes (next_joined k.And (unit l.levels)) l.leaves l.found (l.end - l.counter) l.rest

abbrev pub invariant-conjs-loop : goal.invariant-conjs-loop
invariant-conjs-loop l = Goes (next_joined k.Or (conj_of (unit l.levels))) l.leaves l.found (l.end - l.counter) l.rest
