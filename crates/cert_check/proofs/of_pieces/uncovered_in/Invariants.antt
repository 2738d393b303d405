use Rattle.std.proofs.Common.{ℕ, ◌<◌}
use Rattle.theory.specs.Made.{IsFor}
use Rattle.cert_check.specs.Listed.{CoveredIn}
use Rattle.cert_check.proofs.of_pieces.uncovered_in.Given as goal

abbrev pub invariant-loop-n : goal.invariant-loop-n
invariant-loop-n l = record {
  made : IsFor l.protocol l.scratch;
  hold : (m : ℕ) → m < l.n → CoveredIn l.protocol l.cubes l.list m;
}
