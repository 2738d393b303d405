use Rattle.std.proofs.Common.{List, refl, subst}
use Rattle.std.specs.Prelude.{IsTrue, ◌↔◌}
use Rattle.std.proofs.lemmas.Bool.{false≢true}
use Rattle.cub_proto.specs.declared.literal.Lit.{Lit}
use Rattle.cub_cube.specs.Cover.{DoesCover}
use Rattle.cert_check.specs.Injections.{cube_of}
use Rattle.cert_check.proofs.Looping.{fit_list}
use Rattle.cert_check.proofs.Putting.{too_wide}
use Rattle.cert_check.proofs.injections.covers.Goals as goal

pub returns-then-big-width-clause-exact : goal.returns-then-big-width-clause-exact
returns-then-big-width-clause-exact c = (
  (λ h. absurd (false≢true h)),
  (λ found. absurd (too_wide c.args.protocol.now c.args.big.now (cube_of c.args.width c.args.lits.now) c.if-big-width.true found)),
)

pub has_injection-requires-clause-fit : goal.has_injection-requires-clause-fit
has_injection-requires-clause-fit c = fit_list c.args.protocol.now c.args.big.now.width c.args.big.now.width c.args.big.now.lits c.as_slice-literals.result.now c.as_slice-literals.ensures refl c.requires.fit

pub returns-clause-exact : goal.returns-clause-exact
returns-clause-exact c =
    subst (λ (xs : List Lit). IsTrue c.has_injection.result ↔ DoesCover c.args.protocol.now (cube_of c.args.big.now.width xs) (cube_of c.args.width c.args.lits.now)) c.as_slice-literals.ensures c.has_injection.ensures.exact
