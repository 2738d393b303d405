use Rattle.std.proofs.Common.{◌∙◌, subst}
use Rattle.cub_cube.specs.declared.cube.Cube.{Cube}
use Rattle.cub_cube.specs.Meaning.{IsConsistent}
use Rattle.cover_index.proofs.Searching.{met_more}
use Rattle.cover_index.proofs.list_below.count_met.Goals as goal

pub loop-i-preserved : goal.loop-i-preserved
loop-i-preserved c = record {
  made = c.load_small.ensures.ready.made;
  tests = c.load_small.ensures.count ∙ c.loop-i.invariant.tests;
  known = met_more c.args.protocol.now c.args.store.now.cubes c.loop-i.i c.loop-i.invariant.known
      (subst (λ (x : Cube). IsConsistent c.args.protocol.now x.width x.lits) c.cube.ensures (c.load_small.ensures.exact.0 c.if-not-load_small.false));
}
