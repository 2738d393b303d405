use Rattle.std.proofs.Common.{◌≡◌}
use Rattle.figures.proofs.closing.close.Given as goal

abbrev pub invariant-loop-done : goal.invariant-loop-done
invariant-loop-done l = l.scratch.room ≡ 104
