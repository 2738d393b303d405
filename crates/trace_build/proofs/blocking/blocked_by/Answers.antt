use Rattle.std.proofs.Common.{◌++◌, ◌∷◌, [], sym, ap, ◌∙◌}
use Rattle.replay.specs.Fault.{is_blocking}
use Rattle.trace_build.proofs.PickLemmas.{filter_yes, filter_no}
use Rattle.trace_build.proofs.blocking.blocked_by.Goals as goal
use Rattle.trace_build.proofs.blocking.blocked_by.Goals.{then-is_blocking+in_ok-push, else-is_blocking}

pub loop-process-preserved : goal.loop-process-preserved
loop-process-preserved c =
    let test = is_blocking c.args.state.now c.args.transition.now.others c.args.params.now in
    let n = c.loop-process.process in
    elim c.if-is_blocking.branch [
      | then-is_blocking+in_ok-push w ↦
          w.list-is ∙ w.in_ok-push.ensures.ok ∙ ap (λ xs. xs ++ n ∷ []) c.loop-process.invariant ∙ sym (filter_yes test n (sym c.is_blocking.ensures ∙ w.if-is_blocking.true))
      | else-is_blocking w ↦ w.list-is ∙ c.loop-process.invariant ∙ sym (filter_no test n (sym c.is_blocking.ensures ∙ w.if-is_blocking.false))
    ]
