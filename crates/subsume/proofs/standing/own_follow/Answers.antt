use Rattle.std.proofs.Common.{◌≡◌, ◌∙◌, List, length, get_or, take, refl, sym, ap, subst, arith}
use Rattle.std.proofs.Math.Seq.{take-length}
use Rattle.std.proofs.lemmas.Bool.{false≢true}
use Rattle.std.proofs.lemmas.List.Elements.{Contains-get_or}
use Rattle.cub_proto.specs.declared.literal.Term.TheVariants.{Global}
use Rattle.cub_proto.specs.declared.literal.Lit.{Lit}
use Rattle.cub_proto.specs.declared.literal.Lit.TheVariants.{FinIn}
use Rattle.subsume.specs.Standing.{OwnFollow}
use Rattle.subsume.proofs.Alone.{own_more}
use Rattle.subsume.proofs.standing.own_follow.Goals as goal

pub returns-then-not-is_own_implied-clause-exact : goal.returns-then-not-is_own_implied-clause-exact
returns-then-not-is_own_implied-clause-exact c =
    let lit : Lit = get_or c.args.lits.now c.loop-lit.lit-index (FinIn (Global 0) 0) in (
      (λ h. absurd (false≢true h)),
      (λ all. sym c.if-not-is_own_implied.true ∙ c.is_own_implied.ensures.exact.1 (all lit (Contains-get_or c.args.lits.now c.loop-lit.lit-index (FinIn (Global 0) 0) c.loop-lit-test.true))),
    )

pub loop-lit-preserved : goal.loop-lit-preserved
loop-lit-preserved c = record {
  ready = c.is_own_implied.ensures.ready;
  count = c.is_own_implied.ensures.count ∙ c.loop-lit.invariant.count;
  follow = own_more c.args.protocol.now c.args.lits.now c.args.small.now c.args.places.now c.args.k c.loop-lit.lit-index (FinIn (Global 0) 0) c.loop-lit-test.true c.loop-lit.invariant.follow
      (c.is_own_implied.ensures.exact.0 c.if-not-is_own_implied.false);
}

pub returns-clause-exact : goal.returns-clause-exact
returns-clause-exact c =
    let at_end : c.loop-lit.lit-index ≡ length c.args.lits.now = omega (arith, c.loop-lit.auto.lit-index-end, c.loop-lit-test.false) in
    let all : take c.loop-lit.lit-index c.args.lits.now ≡ c.args.lits.now = ap (λ k. take k c.args.lits.now) at_end ∙ take-length c.args.lits.now in (
      (λ h. subst (λ (xs : List Lit). OwnFollow c.args.protocol.now xs c.args.small.now c.args.places.now c.args.k) all c.loop-lit.invariant.follow),
      (λ h. refl),
    )
