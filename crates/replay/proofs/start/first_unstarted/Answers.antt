use Rattle.std.proofs.Common.{not, [], ◌∷◌, sym, ap, ◌∙◌}
use Rattle.cub_proto.specs.Truth.{any_true}
use Rattle.cub_base.proofs.Searches.{find_range_no}
use Rattle.replay.proofs.start.first_unstarted.Goals as goal

pub loop-process-preserved : goal.loop-process-preserved
loop-process-preserved c =
    let p = c.args.protocol.now in
    let s = c.args.state.now in
    sym (find_range_no (λ i. not (any_true s (i ∷ []) p.start)) c.loop-process.process c.processes-process-end.result c.loop-process-test.true
    (ap not (sym c.if-not-begins.ensures))) ∙ c.loop-process.invariant
