use Rattle.std.proofs.Common.{ℕ, ◌<◌}
use Rattle.theory.specs.Made.{IsFor}
use Rattle.cert_check.specs.Obligations.{StartHolds}
use Rattle.cert_check.proofs.starts.first_started.Given as goal

abbrev pub invariant-loop-k : goal.invariant-loop-k
invariant-loop-k l = record {
  made : IsFor l.protocol l.scratch;
  hold : (j : ℕ) → j < l.k → StartHolds l.protocol l.cubes j;
}
