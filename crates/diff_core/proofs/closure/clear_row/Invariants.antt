-- Entries of the row below j say no bound, and all others are as they were.
use Rattle.std.proofs.Common.{◌≡◌, ◌≢◌, ℕ, ◌<◌}
use Rattle.diff_core.specs.Table.{cell, far}
use Rattle.diff_core.proofs.closure.clear_row.Given as goal

abbrev pub invariant-loop-j : goal.invariant-loop-j
invariant-loop-j l = record {
  row : (j : ℕ) → j < l.j → cell l.entries l.i j ≡ far;
  others : (k j : ℕ) → k < l.nodes → j < l.nodes → k ≢ l.i → cell l.entries k j ≡ cell l.fn.entries k j;
}
