use Rattle.std.proofs.Common.{◌≡◌}
use Rattle.cub_proto.specs.declared.literal.Lit.TheVariants.{FinIn}
use Rattle.cub_proto.specs.declared.literal.Term.TheVariants.{Global}
use Rattle.fin_dom.proofs.Narrowing.{narrows_next, refuted_next}
use Rattle.fin_dom.proofs.narrow.narrow_all.Goals as goal

pub returns-then-not-narrow_sides-clause-none : goal.returns-then-not-narrow_sides-clause-none
returns-then-not-narrow_sides-clause-none c _ =
    refuted_next c.args.lits.now c.loop-lit.lit-index (FinIn (Global 0) 0) c.args.masks.now c.loop-lit.masks c.loop-lit-test.true c.loop-lit.invariant
    (c.narrow_sides.ensures.none c.if-not-narrow_sides.true)

pub loop-lit-preserved : goal.loop-lit-preserved
loop-lit-preserved c =
    narrows_next c.args.lits.now c.loop-lit.lit-index (FinIn (Global 0) 0) c.args.masks.now c.loop-lit.masks c.narrow_sides.new.masks c.loop-lit-test.true c.loop-lit.invariant
    (c.narrow_sides.ensures.narrows c.if-not-narrow_sides.false)
