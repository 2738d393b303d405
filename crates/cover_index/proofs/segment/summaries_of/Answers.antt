use Rattle.std.proofs.Common.{◌≡◌, ◌∷◌, [], ◌++◌, List, length, sym, ap, subst, arith}
use Rattle.std.proofs.lemmas.List.{length_push}
use Rattle.cub_cube.specs.declared.cube.Cube.{Cube}
use Rattle.log_form.specs.Links.{cube_at}
use Rattle.subsume.specs.declared.summary.Summary.{Summary}
use Rattle.subsume.specs.Summary.{IsSummary}
use Rattle.subsume.proofs.Retiring.{cube_read}
use Rattle.cover_index.specs.Asked.{summary_at}
use Rattle.cover_index.proofs.Sealing.{sum_more}
use Rattle.cover_index.proofs.segment.summaries_of.Goals as goal

pub loop-i-preserved : goal.loop-i-preserved
loop-i-preserved c =
    let p = c.args.protocol.now in
    let cubes = c.args.cubes.now in
    let i = c.loop-i.i in
    let old = c.loop-i.summaries in
    let here : cube_at cubes i ≡ c.index-cubes-i.result = cube_read cubes i c.index-cubes-i.result (omega arith) c.index-cubes-i.is in
    let own : IsSummary p (cube_at cubes i) c.of.result = subst (λ (x : Cube). IsSummary p x c.of.result) (sym here) c.of.ensures.value in
    let size : length c.push.new.self ≡ length (old ++ c.of.result ∷ []) = ap (λ (ss : List Summary). length ss) c.in-Ok.ensures.ok in
    let more = length_push old c.of.result in
    record {
      one_each = omega (arith, size, more, c.loop-i.invariant.one_each);
      own = λ j below. subst (λ (ss : List Summary). IsSummary p (cube_at cubes j) (summary_at ss j)) (sym c.in-Ok.ensures.ok)
          (sum_more p cubes old i c.of.result c.loop-i.invariant.one_each c.loop-i.invariant.own own j below);
    }
