use Rattle.theory.specs.Made.{IsFor}
use Rattle.figures.proofs.deciding.entails.Given as goal

abbrev pub invariant-loop-done : goal.invariant-loop-done
invariant-loop-done l = IsFor l.protocol l.scratch
