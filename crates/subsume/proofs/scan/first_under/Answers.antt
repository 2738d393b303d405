use Rattle.std.proofs.Common.{◌≡◌, subst, arith}
use Rattle.cub_cube.specs.declared.cube.Cube.{Cube}
use Rattle.cub_cube.specs.Cover.{DoesCover}
use Rattle.log_form.specs.Links.{cube_at}
use Rattle.subsume.proofs.Retiring.{none_more, cube_read}
use Rattle.subsume.proofs.scan.first_under.Goals as goal

pub loop-number-preserved : goal.loop-number-preserved
loop-number-preserved c =
    let here : cube_at c.args.cubes.now c.loop-number.number ≡ c.index-cubes-number.result = cube_read c.args.cubes.now c.loop-number.number c.index-cubes-number.result (omega arith) c.index-cubes-number.is in
    record {
      made = c.covers.ensures.made;
      none = none_more (λ j. DoesCover c.args.protocol.now c.args.cube.now (cube_at c.args.cubes.now j)) c.args.start c.loop-number.number c.loop-number.invariant.none
          (λ h. c.in-None.ensures.exact (subst (λ (x : Cube). DoesCover c.args.protocol.now c.args.cube.now x) here h));
    }

pub returns-clause-first : goal.returns-clause-first
returns-clause-first c j low high = c.loop-number.invariant.none j low (omega arith)
