use Rattle.std.proofs.Common.{refl, arith}
use Rattle.cub_proto.specs.declared.literal.Term.TheVariants.{Global}
use Rattle.cub_proto.specs.declared.literal.Lit.{Lit}
use Rattle.cub_proto.specs.declared.literal.Lit.TheVariants.{FinIn}
use Rattle.cub_cube.specs.Rename.{renamed}
use Rattle.theory_laws.specs.Entailed.{Entails}
use Rattle.cert_check.proofs.Looping.{each_more, each_all}
use Rattle.cert_check.proofs.naming.all_follow.Goals as goal

pub loop-lit-preserved : goal.loop-lit-preserved
loop-lit-preserved c = record {
  ready = c.is_implied.ensures.ready;
  follow = each_more (λ (lit : Lit). Entails c.args.protocol.now c.args.width c.args.lits.now (renamed c.args.places.now lit)) c.args.big.now c.loop-lit.lit-index (FinIn (Global 0) 0) (omega arith)
      c.loop-lit.invariant.follow (c.is_implied.ensures.exact.0 c.if-not-is_implied.false);
}

pub returns-clause-exact : goal.returns-clause-exact
returns-clause-exact c = (
  (λ h. each_all (λ (lit : Lit). Entails c.args.protocol.now c.args.width c.args.lits.now (renamed c.args.places.now lit)) c.args.big.now c.loop-lit.lit-index (omega arith) c.loop-lit.invariant.follow),
  (λ h. refl),
)
