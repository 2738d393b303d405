use Rattle.std.proofs.Common.{◌≡◌, drop}
use Rattle.updates.specs.Chosen.{value_in}
use Rattle.updates.proofs.values.value_in.Given as goal

abbrev pub invariant-loop-at : goal.invariant-loop-at
invariant-loop-at l = value_in (drop l.at l.terms) (drop l.at l.values) l.term ≡ value_in l.terms l.values l.term
