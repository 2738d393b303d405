use Rattle.std.proofs.Common.{◌<◌, ◌∙◌, subst}
use Rattle.pieces.proofs.Walking.{kept_then}
use Rattle.pieces.proofs.Gathering.{one_transition_more}
use Rattle.pieces.proofs.pieces_of.hand_on_all.Goals as goal

pub loop-number-preserved : goal.loop-number-preserved
loop-number-preserved g c = record {
  kept = kept_then c.args.scratch.now c.loop-number.scratch c.hand_on_by.new.scratch c.loop-number.invariant.kept c.in_ok-hand_on_by.ensures.kept;
  made = c.in_ok-hand_on_by.ensures.made;
  first = c.in_ok-hand_on_by.ensures.same ∙ c.loop-number.invariant.first;
  handed = one_transition_more g.R.Receiver.takes c.args.protocol.now c.args.cube.now c.loop-number.number c.args.receiver.now c.loop-number.receiver c.hand_on_by.new.receiver (subst (λ n. c.loop-number.number < n) c.len-number-end.ensures c.loop-number-test.true)
      c.loop-number.invariant.handed c.in_ok-hand_on_by.ensures.handed;
}
