use Rattle.std.proofs.Common.{◌+◌, refl, ap, subst, ◌∙◌}
use Rattle.cub_proto.specs.Configuration.{process_count}
use Rattle.cub_proto.specs.Legal.{IsLegal, after}
use Rattle.replay.specs.Machine.{Replay}
use Rattle.replay.proofs.Runs.{legal_more, after_events_more, count_after}
use Rattle.replay.proofs.machine.Machine.run.Goals as goal

pub loop-number-preserved : goal.loop-number-preserved
loop-number-preserved c =
    let m = c.args.self.now in
    let es = c.args.events.now in
    let n = c.loop-number.number in
    let e = c.index-events-number.result in
    let here = c.loop-number.self in
    let inv = c.loop-number.invariant in
    let step : Replay → Replay = λ r. record r { state = after r.protocol r.state e; accepted = r.accepted + 1 } in
    record {
      left = c.in_default.ensures.ok ∙ ap step inv.left ∙ after_events_more m es n e c.loop-number-test.true c.index-events-number.is;
      legal =
          legal_more m.protocol m.state es n e c.loop-number-test.true c.index-events-number.is inv.legal
          (subst (λ (r : Replay). IsLegal r.protocol r.state e) inv.left (c.in_default.ensures.legal.0 refl));
      count = ap (λ (r : Replay). process_count r.state) c.in_default.ensures.ok ∙ count_after here.protocol here.state e ∙ inv.count;
    }
