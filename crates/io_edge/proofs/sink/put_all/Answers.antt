use Rattle.std.proofs.Common.{◌≤◌, ◌∙◌, length, arith, length-drop}
use Rattle.std.proofs.lemmas.List.{take_rest}
use Rattle.io_edge.proofs.Written.{writes_more}
use Rattle.io_edge.proofs.sink.put_all.Goals as goal

pub loop-done-preserved : goal.loop-done-preserved
loop-done-preserved g c = record {
  within = omega (arith, c.in_ok-done.ensures.within, length-drop c.loop-done.done c.args.bytes.now);
  written = writes_more _ _ _ c.args.bytes.now c.loop-done.done c.in_ok-done.field-0
      c.loop-done.invariant.written c.in_ok-done.ensures.appends;
  faults = omega arith;
  sure = λ (enough : length c.args.bytes.now ≤ g.K.Sink.spare c.args.out.now).
      c.put.ensures.sure (simp (take_rest c.args.bytes.now c.loop-done.done)
      (omega (arith, length-drop c.loop-done.done c.args.bytes.now)))
      ∙ c.loop-done.invariant.sure enough;
  spare = omega (arith, c.in_ok-done.ensures.spare);
}
