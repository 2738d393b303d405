use Rattle.std.proofs.Common.{sym, ◌∙◌, arith}
use Rattle.cube_text.proofs.Marking.{count_one, count_none, count_few}
use Rattle.cube_text.proofs.writer.count_marked.Goals as goal
use Rattle.cube_text.proofs.writer.count_marked.Goals.{then-has_bit, else-has_bit}

pub overflow_add-count : goal.overflow_add-count
overflow_add-count c =
    let few = count_few c.args.mask c.args.names.now c.loop-number.number c.loop-number-test.true c.loop-number.count c.loop-number.invariant in
    omega (arith, few, c.requires, c.loop-number-test.true)

pub loop-number-preserved : goal.loop-number-preserved
loop-number-preserved c = elim c.if-has_bit.branch [
  | then-has_bit w ↦ w.count-is ∙ count_one c.args.mask c.args.names.now c.loop-number.number c.loop-number-test.true c.loop-number.count (sym c.has_bit.ensures ∙ w.if-has_bit.true) c.loop-number.invariant
  | else-has_bit w ↦ w.count-is ∙ count_none c.args.mask c.args.names.now c.loop-number.number c.loop-number-test.true c.loop-number.count (sym c.has_bit.ensures ∙ w.if-has_bit.false) c.loop-number.invariant
]
