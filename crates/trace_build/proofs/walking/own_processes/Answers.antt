use Rattle.std.proofs.Common.{◌≡◌, ◌<◌, ◌++◌, ◌∷◌, [], length, sym, ap, ◌∙◌, arith}
use Rattle.std.proofs.lemmas.List.FromFn.{length-range_with_len}
use Rattle.trace_build.proofs.PickLemmas.{range_next}
use Rattle.trace_build.proofs.walking.own_processes.Goals as goal

pub push-requires : goal.push-requires
push-requires c =
    let size : length c.loop-process.list.items ≡ c.loop-process.process = ap length c.loop-process.invariant ∙ length-range_with_len 0 c.loop-process.process in
    let most = c.requires in
    let end = c.from-process-end.ensures in
    let small : length c.loop-process.list.items < 12 = omega arith in
    (omega arith, small)

pub loop-process-preserved : goal.loop-process-preserved
loop-process-preserved c =
    c.push.ensures.items ∙ ap (λ xs. xs ++ c.loop-process.process ∷ []) c.loop-process.invariant ∙ sym (range_next c.loop-process.process)
