use Rattle.std.proofs.Common.{ℕ, ◌<◌}
use Rattle.theory.specs.Made.{IsFor}
use Rattle.cert_check.specs.declared.keys.Key.{Key}
use Rattle.cert_check.specs.Obligations.{GoalNamed, IsOwed}
use Rattle.cert_check.specs.Walked.{HasCome}
use Rattle.cert_check.proofs.goals.first_unnamed.Given as goal

abbrev pub invariant-loop-n : goal.invariant-loop-n
invariant-loop-n l = record {
  made : IsFor l.protocol l.scratch;
  come : HasCome (IsOwed l.protocol l.cubes) l.lines (Key.Goal l.n) l.cursor;
  hold : (m : ℕ) → m < l.n → GoalNamed l.protocol l.cubes l.lines m;
}
