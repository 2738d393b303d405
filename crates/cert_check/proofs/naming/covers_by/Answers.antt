use Rattle.std.proofs.Common.{List, refl, sym, subst}
use Rattle.std.specs.Prelude.{Contains}
use Rattle.cub_proto.specs.declared.literal.Lit.{Lit}
use Rattle.cub_cube.specs.Rename.{renamed}
use Rattle.theory_laws.specs.Entailed.{Entails}
use Rattle.cert_check.proofs.Looping.{fit_list}
use Rattle.cert_check.proofs.Putting.{follow_covers, covers_follow}
use Rattle.cert_check.proofs.naming.covers_by.Goals as goal

pub all_follow-requires-clause-fit : goal.all_follow-requires-clause-fit
all_follow-requires-clause-fit c =
    let injection = c.is_injection.ensures.0 c.if-not-is_injection.false in
    fit_list c.args.protocol.now c.args.big.now.width _ c.args.big.now.lits c.as_slice.result.now c.as_slice.ensures injection.one_each c.requires.fit

pub returns-clause-exact : goal.returns-clause-exact
returns-clause-exact c =
    let injection = c.is_injection.ensures.0 c.if-not-is_injection.false in
    let fit = fit_list c.args.protocol.now c.args.big.now.width c.args.big.now.width c.args.big.now.lits c.args.big.now.lits refl refl c.requires.fit in (
      (λ h. follow_covers c.args.protocol.now c.args.big.now.lits c.args.big.now.width c.args.width c.args.lits.now c.args.places.now fit injection.one_each injection.within injection.apart
          (subst (λ (xs : List Lit). (lit : Lit) → Contains xs lit → Entails c.args.protocol.now c.args.width c.args.lits.now (renamed c.args.places.now lit)) c.as_slice.ensures (c.all_follow.ensures.exact.0 h))),
      (λ covers. c.all_follow.ensures.exact.1
          (subst (λ (xs : List Lit). (lit : Lit) → Contains xs lit → Entails c.args.protocol.now c.args.width c.args.lits.now (renamed c.args.places.now lit)) (sym c.as_slice.ensures)
          (covers_follow c.args.protocol.now c.args.big.now.lits c.args.big.now.width c.args.width c.args.lits.now fit c.args.places.now covers))),
    )
