use Rattle.std.proofs.Common.{◌≡◌, subst, arith}
use Rattle.cub_cube.specs.declared.cube.Cube.{Cube}
use Rattle.cub_cube.specs.Cover.{DoesCover}
use Rattle.log_form.specs.Links.{cube_at}
use Rattle.subsume.proofs.Retiring.{none_more, cube_read}
use Rattle.subsume.proofs.scan.first_cover.Goals as goal

pub loop-i-preserved : goal.loop-i-preserved
loop-i-preserved c =
    let here : cube_at c.args.cubes.now c.loop-i.i ≡ c.index-cubes-i.result = cube_read c.args.cubes.now c.loop-i.i c.index-cubes-i.result (omega arith) c.index-cubes-i.is in
    record {
      ready = c.covers_loaded.ensures.ready;
      none = none_more (λ j. DoesCover c.args.protocol.now (cube_at c.args.cubes.now j) c.args.cube.now) c.args.start c.loop-i.i c.loop-i.invariant.none
          (λ h. c.in-None.ensures.exact (subst (λ (x : Cube). DoesCover c.args.protocol.now x c.args.cube.now) here h));
    }

pub returns-clause-first : goal.returns-clause-first
returns-clause-first c j low high = c.loop-i.invariant.none j low (omega arith)
