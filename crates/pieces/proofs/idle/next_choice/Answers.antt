use Rattle.std.proofs.Common.{◌<◌, ◌∙◌, length, sym, subst, arith}
use Rattle.std.specs.Prelude.{IsTrue}
use Rattle.std.proofs.lemmas.List.{length-map}
use Rattle.pieces.specs.Idle.{is_idle}
use Rattle.pieces.specs.Jobs.{Search, as_step, step_at}
use Rattle.pieces.proofs.Idling.{behind_idle, stands_idle}
use Rattle.pieces.proofs.idle.next_choice.Goals as goal

pub loop-next-preserved : goal.loop-next-preserved
loop-next-preserved c =
    let j = c.args.job.now in
    let d = c.args.work.now in
    let at = c.loop-next.next in
    let below : at < length j.steps = subst (λ (x : Search). at < length x.steps) c.job.view_is (subst (λ n. at < n) (sym (length-map c.job.inside.steps.now as_step)) c.loop-next-test.true) in
    let idle : IsTrue (is_idle j.transition (step_at j at) d) = subst IsTrue c.is_idle_at.ensures c.if-is_idle_at.true in
    record {
      later = (let h = c.loop-next.invariant.later in omega arith);
      there = omega arith;
      stands = stands_idle j at d below idle c.loop-next.invariant.stands;
      same = c.loop-next.invariant.same ∙ behind_idle j at d below idle;
    }
