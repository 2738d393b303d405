use Rattle.std.proofs.Common.{◌<◌, ℤ, ◌+ℤ◌, arith, subst}
use Rattle.diff_core.specs.Table.{cell}
use Rattle.diff_core.specs.Relaxes.{Lowers}
use Rattle.diff_core.proofs.Rows.{row_step}
use Rattle.diff_core.proofs.closure.lower_row.Goals as goal

pub loop-j-preserved : goal.loop-j-preserved
loop-j-preserved c =
    let first : ℤ = cell c.args.entries.now c.args.i c.args.con.now.left +ℤ c.args.con.now.bound in
    let j_in : c.loop-j.j < c.args.nodes = omega arith in
    let here : Lowers (cell c.loop-j.entries c.args.i c.loop-j.j) (cell c.lower.new.entries c.args.i c.loop-j.j) first (cell c.loop-j.entries c.args.con.now.right c.loop-j.j) =
    subst (λ (z : ℤ). Lowers (cell c.loop-j.entries c.args.i c.loop-j.j) (cell c.lower.new.entries c.args.i c.loop-j.j) z (cell c.loop-j.entries c.args.con.now.right c.loop-j.j)) c.loop-j.invariant.first_is c.lower.ensures.lowers in
    record {
      first_is = c.loop-j.invariant.first_is;
      done = row_step c.args.entries.now c.loop-j.entries c.lower.new.entries c.args.nodes c.args.i c.args.con.now.right c.loop-j.j first c.requires.few c.requires.i_in c.requires.right_in c.requires.other j_in c.loop-j.invariant.done here c.lower.ensures.others;
    }

pub returns-clause-row : goal.returns-clause-row
returns-clause-row c j j_in = c.loop-j.invariant.done.row j (omega (arith, j_in))
