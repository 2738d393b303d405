use Rattle.std.proofs.Common.{◌∙◌, get_or, refl, sym, arith}
use Rattle.std.specs.Prelude.{IsTrue}
use Rattle.std.proofs.lemmas.Bool.{false≢true}
use Rattle.std.proofs.lemmas.List.Elements.{Contains-get_or}
use Rattle.cub_proto.specs.declared.literal.Term.TheVariants.{Global}
use Rattle.cub_proto.specs.declared.literal.Lit.{Lit}
use Rattle.cub_proto.specs.declared.literal.Lit.TheVariants.{FinIn}
use Rattle.cub_cube.specs.Rename.{renamed}
use Rattle.cert_check.specs.Stand.{is_joint}
use Rattle.theory_laws.specs.Entailed.{Entails}
use Rattle.cert_check.proofs.Looping.{each_more, each_all}
use Rattle.cert_check.proofs.injections.joint_follow.Goals as goal

pub returns-then-not-is_implied_if-clause-exact : goal.returns-then-not-is_implied_if-clause-exact
returns-then-not-is_implied_if-clause-exact c = (
  (λ h. absurd (false≢true h)),
  (λ all. sym c.if-not-is_implied_if.true
      ∙ c.is_implied_if.ensures.exact.1 (λ asked. all (get_or c.args.big.now c.loop-lit.lit-index (FinIn (Global 0) 0)) (Contains-get_or c.args.big.now c.loop-lit.lit-index (FinIn (Global 0) 0) (omega arith)) (sym c.is_joint-asked.ensures ∙ asked))),
)

pub loop-lit-preserved : goal.loop-lit-preserved
loop-lit-preserved c = record {
  ready = c.is_implied_if.ensures.ready;
  follow = each_more (λ (lit : Lit). IsTrue (is_joint c.args.k lit) → Entails c.args.protocol.now c.args.width c.args.lits.now (renamed c.args.places.now lit)) c.args.big.now c.loop-lit.lit-index (FinIn (Global 0) 0) (omega arith)
      c.loop-lit.invariant.follow (λ asked. c.is_implied_if.ensures.exact.0 c.if-not-is_implied_if.false (c.is_joint-asked.ensures ∙ asked));
}

pub returns-clause-exact : goal.returns-clause-exact
returns-clause-exact c = (
  (λ h. each_all (λ (lit : Lit). IsTrue (is_joint c.args.k lit) → Entails c.args.protocol.now c.args.width c.args.lits.now (renamed c.args.places.now lit)) c.args.big.now c.loop-lit.lit-index (omega arith) c.loop-lit.invariant.follow),
  (λ h. refl),
)
