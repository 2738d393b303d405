use Rattle.std.proofs.Common.{◌≡◌, ◌∙◌, sym}
use Rattle.theory.proofs.Parting.{integers_none}
use Rattle.theory.proofs.consistency.integer_part.Goals as goal

pub integer_extends-requires-clause-solved : goal.integer_extends-requires-clause-solved
integer_extends-requires-clause-solved c = integers_none c.args.lits.now (sym c.has_integer.ensures ∙ c.if-not-has_integer.true)
