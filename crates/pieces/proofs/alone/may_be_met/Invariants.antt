use Rattle.std.proofs.Common.{◌≡◌, ◌-◌, drop, length}
use Rattle.pieces.specs.Alone.{may_be_met}
use Rattle.pieces.proofs.alone.may_be_met.Given as goal

abbrev pub invariant-loop-at : goal.invariant-loop-at
invariant-loop-at l = may_be_met (drop l.from l.lits) ≡ may_be_met (drop l.at l.lits)

abbrev pub decreases-loop-at : goal.decreases-loop-at
decreases-loop-at l = length l.lits - l.at
