-- Rows below i are lowered, and all others are as they were; so is that of the constraint's right node.
use Rattle.diff_core.proofs.Rows.{RowsDone}
use Rattle.diff_core.proofs.closure.relax.Given as goal

abbrev pub invariant-loop-i : goal.invariant-loop-i
invariant-loop-i l = RowsDone l.fn.entries l.entries l.nodes l.i l.con.left l.con.right l.con.bound
