-- Entries of the row below j are lowered, and all others are as they were.
use Rattle.std.proofs.Common.{◌≡◌, ◌+ℤ◌}
use Rattle.diff_core.specs.Table.{cell}
use Rattle.diff_core.proofs.Rows.{RowDone}
use Rattle.diff_core.proofs.closure.lower_row.Given as goal

abbrev pub invariant-loop-j : goal.invariant-loop-j
invariant-loop-j l = record {
  first_is : l.first ≡ cell l.fn.entries l.i l.con.left +ℤ l.con.bound;
  done : RowDone l.fn.entries l.entries l.nodes l.i l.con.right l.j (cell l.fn.entries l.i l.con.left +ℤ l.con.bound);
}
