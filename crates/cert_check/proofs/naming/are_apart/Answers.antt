use Rattle.std.proofs.Common.{refl, arith}
use Rattle.std.proofs.lemmas.Bool.{false≢true, true≢false}
use Rattle.std.proofs.Common.{◌∙◌, sym}
use Rattle.cert_check.proofs.Looping.{apart_more, not_apart, apart_all}
use Rattle.cert_check.proofs.naming.are_apart.Goals as goal

pub returns-then-stands_in : goal.returns-then-stands_in
returns-then-stands_in c = (
  (λ h. absurd (false≢true h)),
  (λ apart. absurd (not_apart c.args.places.now c.loop-i.i (omega arith) (c.stands_in.ensures.0 c.if-stands_in.true) apart)),
)

pub loop-i-preserved : goal.loop-i-preserved
loop-i-preserved c =
    apart_more c.args.places.now c.loop-i.i (omega arith) c.loop-i.invariant (λ inside. true≢false (sym (c.stands_in.ensures.1 inside) ∙ c.if-stands_in.false))

pub returns : goal.returns
returns c = ((λ h. apart_all c.args.places.now c.loop-i.i (omega arith) c.loop-i.invariant), (λ h. refl))
