use Rattle.std.proofs.Common.{◌∙◌, refl, sym, subst, arith}
use Rattle.std.proofs.lemmas.Bool.{false≢true, true≢false}
use Rattle.cub_cube.specs.declared.cube.Cube.{Cube}
use Rattle.cub_cube.specs.Cover.{DoesCover}
use Rattle.cert_check.specs.Injections.{cube_of}
use Rattle.cert_check.proofs.Looping.{each_more, each_all}
use Rattle.cert_check.proofs.Owing.{cube_at, get_at, get_contains}
use Rattle.cert_check.proofs.covering.some_covers.Goals as goal

pub covers-requires-clause-fit : goal.covers-requires-clause-fit
covers-requires-clause-fit c = let its = cube_at c.args.protocol.now c.args.cubes.now c.loop-k.k c.index-cubes-k.result c.requires.fit (omega arith) c.index-cubes-k.is in its.fits

pub covers-requires-clause-few : goal.covers-requires-clause-few
covers-requires-clause-few c = let its = cube_at c.args.protocol.now c.args.cubes.now c.loop-k.k c.index-cubes-k.result c.requires.fit (omega arith) c.index-cubes-k.is in its.narrow

pub returns-then-covers-clause-exact : goal.returns-then-covers-clause-exact
returns-then-covers-clause-exact c = (
  (λ h. (c.index-cubes-k.result, get_contains c.args.cubes.now c.loop-k.k c.index-cubes-k.result (get_at c.args.cubes.now c.loop-k.k c.index-cubes-k.result c.index-cubes-k.result (omega arith) (sym c.index-cubes-k.is)), c.covers.ensures.exact.0 c.if-covers.true)),
  (λ h. refl),
)

pub loop-k-preserved : goal.loop-k-preserved
loop-k-preserved c = record {
  ready = c.covers.ensures.ready;
  none = each_more (λ (d : Cube). DoesCover c.args.protocol.now d (cube_of c.args.width c.args.lits.now) → ⊥) c.args.cubes.now c.loop-k.k c.index-cubes-k.result (omega arith) c.loop-k.invariant.none
      (subst (λ (d : Cube). DoesCover c.args.protocol.now d (cube_of c.args.width c.args.lits.now) → ⊥) c.index-cubes-k.is (λ found. true≢false (sym (c.covers.ensures.exact.1 found) ∙ c.if-covers.false)));
}

pub returns-clause-exact : goal.returns-clause-exact
returns-clause-exact c = (
  (λ h. absurd (false≢true h)),
  (λ covered. absurd (each_all (λ (d : Cube). DoesCover c.args.protocol.now d (cube_of c.args.width c.args.lits.now) → ⊥) c.args.cubes.now c.loop-k.k (omega arith) c.loop-k.invariant.none covered.0 covered.1 covered.2)),
)
