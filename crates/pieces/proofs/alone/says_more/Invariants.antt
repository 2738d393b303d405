use Rattle.std.proofs.Common.{◌≡◌, ◌-◌, drop, length}
use Rattle.pieces.specs.Alone.{says_more}
use Rattle.pieces.proofs.alone.says_more.Given as goal

abbrev pub invariant-loop-at : goal.invariant-loop-at
invariant-loop-at l = says_more (drop l.from l.lits) ≡ says_more (drop l.at l.lits)

abbrev pub decreases-loop-at : goal.decreases-loop-at
decreases-loop-at l = length l.lits - l.at
