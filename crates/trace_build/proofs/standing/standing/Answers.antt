use Rattle.std.proofs.Common.{◌≡◌, ◌<◌, ◌++◌, ◌∷◌, [], length, map, sym, ap, ◌∙◌, arith}
use Rattle.std.specs.Prelude.{slice_index}
use Rattle.std.specs.List.{range_with_len}
use Rattle.std.proofs.lemmas.List.FromFn.{length-map-range_with_len}
use Rattle.trace_laws.specs.Standing.{position}
use Rattle.trace_build.proofs.Places.{map_next}
use Rattle.trace_build.proofs.standing.standing.Goals as goal

pub push-requires : goal.push-requires
push-requires c =
    let size : length c.loop-q.list.items ≡ c.loop-q.q = ap length c.loop-q.invariant ∙ length-map-range_with_len (λ q. slice_index c.args.processes.now (position c.args.places.now q)) 0 c.loop-q.q in
    let most = c.requires in
    let small : length c.loop-q.list.items < 12 = omega arith in
    (omega arith, small)

pub loop-q-preserved : goal.loop-q-preserved
loop-q-preserved c =
    c.push.ensures.items ∙ ap (λ xs. xs ++ c.process_numbered.result ∷ []) c.loop-q.invariant
    ∙ ap (λ n. map (λ q. slice_index c.args.processes.now (position c.args.places.now q)) (range_with_len 0 c.loop-q.q) ++ n ∷ []) (c.process_numbered.ensures ∙ ap (slice_index c.args.processes.now) c.position.ensures)
    ∙ sym (map_next (λ q. slice_index c.args.processes.now (position c.args.places.now q)) c.loop-q.q)
