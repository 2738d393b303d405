use Rattle.std.proofs.Common.{◌≡◌, subst, arith}
use Rattle.std.proofs.lemmas.Bool.{false≢true}
use Rattle.cub_cube.specs.declared.cube.Cube.{Cube}
use Rattle.cub_cube.specs.Cover.{DoesCover}
use Rattle.log_form.specs.Links.{cube_at}
use Rattle.subsume.proofs.Retiring.{none_retired_more, cube_read, none_covers}
use Rattle.subsume.proofs.scan.some_cover.Goals as goal

pub loop-i-preserved : goal.loop-i-preserved
loop-i-preserved c =
    let here : cube_at c.args.cubes.now c.loop-i.i ≡ c.index-cubes-i.result = cube_read c.args.cubes.now c.loop-i.i c.index-cubes-i.result (omega arith) c.index-cubes-i.is in
    record {
      ready = c.is_cover.ensures.ready;
      none = none_retired_more (λ j. DoesCover c.args.protocol.now (cube_at c.args.cubes.now j) c.args.cube.now) c.args.retired.now c.loop-i.i c.loop-i.invariant.none
          (λ free h. c.is_cover.ensures.none c.if-is_cover.false free (subst (λ (x : Cube). DoesCover c.args.protocol.now x c.args.cube.now) here h));
    }

pub returns-clause-value : goal.returns-clause-value
returns-clause-value c = (
  (λ h. absurd (false≢true h)),
  (λ covered. absurd (none_covers c.args.protocol.now c.args.cubes.now c.args.retired.now c.args.cube.now c.requires.covered (λ i below. c.loop-i.invariant.none i (omega arith)) covered)),
)
