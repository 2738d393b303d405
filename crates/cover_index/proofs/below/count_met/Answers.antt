use Rattle.std.proofs.Common.{◌≡◌, ◌∙◌, sym, subst, arith}
use Rattle.cub_cube.specs.declared.cube.Cube.{Cube}
use Rattle.cub_cube.specs.Meaning.{IsConsistent}
use Rattle.log_form.specs.Links.{cube_at}
use Rattle.subsume.proofs.Retiring.{cube_read}
use Rattle.cover_index.proofs.Searching.{met_more}
use Rattle.cover_index.proofs.below.count_met.Goals as goal

pub loop-i-preserved : goal.loop-i-preserved
loop-i-preserved c =
    let i = c.loop-i.i in
    let here : cube_at c.args.cubes.now i ≡ c.index-cubes-i.result = cube_read c.args.cubes.now i c.index-cubes-i.result (omega arith) c.index-cubes-i.is in
    record {
      made = c.load_small.ensures.ready.made;
      tests = c.load_small.ensures.count ∙ c.loop-i.invariant.tests;
      known = met_more c.args.protocol.now c.args.cubes.now i c.loop-i.invariant.known
          (subst (λ (x : Cube). IsConsistent c.args.protocol.now x.width x.lits) (sym here) (c.load_small.ensures.exact.0 c.if-not-load_small.false));
    }
