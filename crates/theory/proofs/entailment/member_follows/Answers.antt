use Rattle.std.proofs.Common.{◌≡◌, ◌∙◌, sym, refl, true, false}
use Rattle.std.proofs.lemmas.Bool.{false≢true}
use Rattle.theory.proofs.Following.{member_entry, member_yes, member_no}
use Rattle.theory.proofs.entailment.member_follows.Goals as goal

pub open_to-requires : goal.open_to-requires
open_to-requires c = member_entry c.args.protocol.now c.args.width c.args.lits.now c.args.domains.now c.args.masks.now c.requires.loaded c.args.term c.args.mask c.requires.fits

pub returns-then-not-has_links-clause-exact : goal.returns-then-not-has_links-clause-exact
returns-then-not-has_links-clause-exact c = (
  (λ h. absurd (false≢true h)),
  (λ entails. absurd (member_no c.args.protocol.now c.args.width c.args.lits.now c.args.domains.now c.args.masks.now c.requires.loaded c.args.term c.args.mask c.open_to.result c.in-Some.field-0 c.requires.fits c.open_to.ensures
      (sym c.has_links.ensures ∙ c.if-not-has_links.true) c.in-Some.ensures.has.0 c.in-Some.ensures.has.1 entails)),
)

pub returns-in-None-clause-exact : goal.returns-in-None-clause-exact
returns-in-None-clause-exact c = (
  (λ h. member_yes c.args.protocol.now c.args.width c.args.lits.now c.args.domains.now c.args.masks.now c.requires.loaded c.args.term c.args.mask c.open_to.result c.requires.fits c.open_to.ensures (c.in-None.ensures.none refl)),
  (λ entails. refl),
)
