use Rattle.std.proofs.Common.{ℕ, ◌<◌}
use Rattle.theory.specs.Made.{IsFor}
use Rattle.cert_check.specs.Obligations.{GoalCovered}
use Rattle.cert_check.proofs.goals.first_uncovered.Given as goal

abbrev pub invariant-loop-n : goal.invariant-loop-n
invariant-loop-n l = record {
  made : IsFor l.protocol l.scratch;
  hold : (m : ℕ) → m < l.n → GoalCovered l.protocol l.cubes m;
}
