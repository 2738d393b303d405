-- The least of the entries below j and 0, which stands in the row, on the diagonal.
use Rattle.std.proofs.Common.{◌≡◌, ℕ, ◌<◌, ◌≤ℤ◌, pos}
use Rattle.diff_core.specs.Table.{cell}
use Rattle.diff_core.proofs.closure.row_least.Given as goal

abbrev pub invariant-loop-j : goal.invariant-loop-j
invariant-loop-j l = record {
  reached : (j : ℕ) × (j < l.nodes) × (cell l.entries l.i j ≡ l.least);
  below : (j : ℕ) → j < l.j → l.least ≤ℤ cell l.entries l.i j;
  at_most : l.least ≤ℤ pos 0;
}
