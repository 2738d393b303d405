use Rattle.std.proofs.Common.{◌≡◌, ◌∙◌, Some, sym, subst, arith}
use Rattle.std.specs.Prelude.{slice_get}
use Rattle.std.proofs.lemmas.Bool.{true≢false}
use Rattle.cub_cube.specs.declared.cube.Cube.{Cube}
use Rattle.cub_cube.specs.Starts.{IsStartCube}
use Rattle.cert_check.specs.Obligations.{StartHolds}
use Rattle.cert_check.proofs.Owing.{cube_at, get_at, one_item, hold_more}
use Rattle.cert_check.proofs.Walking.{get_inside}
use Rattle.cert_check.proofs.starts.first_started.Goals as goal

pub meets_start-requires-clause-fit : goal.meets_start-requires-clause-fit
meets_start-requires-clause-fit c = cube_at c.args.protocol.now c.args.cubes.now c.loop-k.k c.index-cubes-k.result c.requires.fit (omega arith) c.index-cubes-k.is

pub returns-then-meets_start-clause-first : goal.returns-then-meets_start-clause-first
returns-then-meets_start-clause-first c = record {
  before = c.loop-k.invariant.hold;
  fails = λ holds. holds c.index-cubes-k.result (get_at c.args.cubes.now c.loop-k.k c.index-cubes-k.result c.index-cubes-k.result (omega arith) (sym c.index-cubes-k.is)) (c.meets_start.ensures.exact.0 c.if-meets_start.true);
}

pub loop-k-preserved : goal.loop-k-preserved
loop-k-preserved c = record {
  made = c.meets_start.ensures.made;
  hold = hold_more (StartHolds c.args.protocol.now c.args.cubes.now) c.loop-k.k c.loop-k.invariant.hold
      (λ d e meets.
      let here : slice_get c.args.cubes.now c.loop-k.k ≡ Some c.index-cubes-k.result = get_at c.args.cubes.now c.loop-k.k c.index-cubes-k.result c.index-cubes-k.result (omega arith) (sym c.index-cubes-k.is) in
      let same : d ≡ c.index-cubes-k.result = one_item c.args.cubes.now c.loop-k.k d c.index-cubes-k.result e here in
      true≢false (sym (c.meets_start.ensures.exact.1 (subst (λ (x : Cube). IsStartCube c.args.protocol.now x) same meets)) ∙ c.if-meets_start.false));
}

pub returns-clause-first : goal.returns-clause-first
returns-clause-first c n d e meets = let inside = get_inside c.args.cubes.now n d e in c.loop-k.invariant.hold n (omega arith) d e meets
