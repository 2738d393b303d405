use Rattle.std.proofs.Common.{◌≡◌, ◌≤◌, ◌-◌, ℕ}
use Rattle.std.specs.Prelude.{length}
use Rattle.cover_index.specs.Columns.{column}
use Rattle.cover_index.proofs.columns.make.Given as goal

abbrev pub invariant-loop-columns : goal.invariant-loop-columns
invariant-loop-columns l = record {
  few : length l.columns.items ≤ 64;
  same : (b : ℕ) → column l.columns.items b ≡ column l.fn.columns.items b;
}

abbrev pub decreases-loop-columns : goal.decreases-loop-columns
decreases-loop-columns l = 64 - length l.columns.items
