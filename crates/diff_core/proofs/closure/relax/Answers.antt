use Rattle.std.proofs.Common.{◌≡◌, ◌≢◌, ◌<◌, ◌+◌, ◌*◌, ℤ, pos, ◌≤ℤ◌, ◌<ℤ◌, arith, get_or, subst, rules, inl, inr, ◌⊎◌, List, sym}
use Rattle.std.proofs.lemmas.Int.{ints}
use Rattle.diff_core.specs.Table.{cell, far}
use Rattle.diff_core.proofs.Rows.{RowsDone, rows_lowered, rows_passed, entry_at_least, entry_at_most}
use Rattle.diff_core.proofs.closure.relax.Goals as goal
use Rattle.diff_core.proofs.closure.relax.Goals.{then-i-con+then-entries-i-lt-FAR, else-i-con, else-i-con-via-then-i-con+else-entries-i-lt-FAR, else-i-con-via-else-i-con}
use mir.Val.{SFits}
use mir.Syntax.{w64}

pub lower_row-requires-clause-at_least : goal.lower_row-requires-clause-at_least
lower_row-requires-clause-at_least c =
    let same : cell c.loop-i.entries c.loop-i.i c.args.con.now.left ≡ cell c.args.entries.now c.loop-i.i c.args.con.now.left = c.loop-i.invariant.ahead c.loop-i.i c.args.con.now.left (omega arith) (omega arith) c.requires.step.a_in in
    omega (arith, ints, same, c.requires.step.at_least, entry_at_least c.args.nodes (cell c.args.entries.now) c.requires.few c.requires.step.closed c.loop-i.i c.args.con.now.left (omega arith) c.requires.step.a_in)

pub lower_row-requires-clause-at_most : goal.lower_row-requires-clause-at_most
lower_row-requires-clause-at_most c =
    let same : cell c.loop-i.entries c.loop-i.i c.args.con.now.left ≡ cell c.args.entries.now c.loop-i.i c.args.con.now.left = c.loop-i.invariant.ahead c.loop-i.i c.args.con.now.left (omega arith) (omega arith) c.requires.step.a_in in
    let f : SFits w64 (get_or c.loop-i.entries (c.loop-i.i * 105 + c.args.con.now.left) (pos 0)) = search rules in
    let near : cell c.args.entries.now c.loop-i.i c.args.con.now.left <ℤ far = omega (arith, ints, c.if-entries-i-lt-FAR.true, same) in
    omega (arith, ints, same, c.requires.step.at_most, entry_at_most c.args.nodes (cell c.args.entries.now) c.requires.few c.requires.step.closed c.loop-i.i c.args.con.now.left (omega arith) c.requires.step.a_in near)

pub lower_row-requires-clause-row_at_least : goal.lower_row-requires-clause-row_at_least
lower_row-requires-clause-row_at_least c j j_in =
    let same : cell c.loop-i.entries c.args.con.now.right j ≡ cell c.args.entries.now c.args.con.now.right j = c.loop-i.invariant.right_row j j_in in
    omega (arith, ints, same, entry_at_least c.args.nodes (cell c.args.entries.now) c.requires.few c.requires.step.closed c.args.con.now.right j c.requires.step.b_in j_in)

pub loop-i-preserved : goal.loop-i-preserved
loop-i-preserved c =
    let i_in : c.loop-i.i < c.args.nodes = omega arith in
    elim c.if-i-con.branch [
      | then-i-con+then-entries-i-lt-FAR w ↦
          let f : SFits w64 (get_or c.loop-i.entries (c.loop-i.i * 105 + c.args.con.now.left) (pos 0)) = search rules in
          let near : cell c.loop-i.entries c.loop-i.i c.args.con.now.left <ℤ far = omega (arith, ints, w.if-entries-i-lt-FAR.true) in
          let other : c.loop-i.i ≢ c.args.con.now.right = w.if-i-con.true in
          let done : RowsDone c.args.entries.now w.lower_row.new.entries c.args.nodes (c.loop-i.i + 1) c.args.con.now.left c.args.con.now.right c.args.con.now.bound =
          rows_lowered c.args.entries.now c.loop-i.entries w.lower_row.new.entries c.args.nodes c.loop-i.i c.args.con.now.left c.args.con.now.right c.args.con.now.bound c.requires.few i_in c.requires.step c.loop-i.invariant other near w.lower_row.ensures.row w.lower_row.ensures.others in
          subst (λ (m : List ℤ). RowsDone c.args.entries.now m c.args.nodes (c.loop-i.i + 1) c.args.con.now.left c.args.con.now.right c.args.con.now.bound) (sym w.entries-is) done
      | else-i-con w ↦
          let why : (c.loop-i.i ≡ c.args.con.now.right) ⊎ (far ≤ℤ cell c.loop-i.entries c.loop-i.i c.args.con.now.left) =
          elim w.else-i-con.branch [
            | else-i-con-via-then-i-con+else-entries-i-lt-FAR w' ↦
                let f : SFits w64 (get_or c.loop-i.entries (c.loop-i.i * 105 + c.args.con.now.left) (pos 0)) = search rules in
                inr (omega (arith, ints, w'.if-entries-i-lt-FAR.false))
            | else-i-con-via-else-i-con w' ↦ inl w'.if-i-con.false
          ] in
          let done : RowsDone c.args.entries.now c.loop-i.entries c.args.nodes (c.loop-i.i + 1) c.args.con.now.left c.args.con.now.right c.args.con.now.bound =
          rows_passed c.args.entries.now c.loop-i.entries c.args.nodes c.loop-i.i c.args.con.now.left c.args.con.now.right c.args.con.now.bound i_in c.requires.step why c.loop-i.invariant in
          subst (λ (m : List ℤ). RowsDone c.args.entries.now m c.args.nodes (c.loop-i.i + 1) c.args.con.now.left c.args.con.now.right c.args.con.now.bound) (sym w.entries-is) done
    ]
