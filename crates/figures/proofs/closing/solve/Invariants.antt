use Rattle.std.proofs.Common.{◌≡◌, length}
use Rattle.theory_laws.specs.Fitting.{term_numbers}
use Rattle.figures.proofs.closing.solve.Given as goal

abbrev pub invariant-loop-done : goal.invariant-loop-done
invariant-loop-done l = length l.scratch ≡ term_numbers l.protocol
