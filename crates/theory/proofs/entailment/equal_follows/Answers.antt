use Rattle.std.proofs.Common.{◌≡◌, ◌∙◌, sym, refl, true, false}
use Rattle.std.proofs.lemmas.Bool.{false≢true}
use Rattle.theory.proofs.Following.{both_entries, equal_yes, equal_no, same_yes}
use Rattle.theory.proofs.entailment.equal_follows.Goals as goal

pub returns-then-is_same_term-clause-exact : goal.returns-then-is_same_term-clause-exact
returns-then-is_same_term-clause-exact c = (
  (λ h. same_yes c.args.protocol.now c.args.width c.args.lits.now c.args.domains.now c.args.masks.now c.requires.loaded c.args.a c.args.b (sym c.is_same_term.ensures ∙ c.if-is_same_term.true)),
  (λ entails. refl),
)

pub open_to-requires : goal.open_to-requires
open_to-requires c = (both_entries c.args.protocol.now c.args.width c.args.lits.now c.args.domains.now c.args.masks.now c.requires.loaded c.args.a c.args.b c.requires.fits).0

pub open_to-requires-2 : goal.open_to-requires-2
open_to-requires-2 c = (both_entries c.args.protocol.now c.args.width c.args.lits.now c.args.domains.now c.args.masks.now c.requires.loaded c.args.a c.args.b c.requires.fits).1

pub returns-then-are_free-clause-exact : goal.returns-then-are_free-clause-exact
returns-then-are_free-clause-exact c =
    let free = c.are_free.ensures.0 c.if-are_free.true in (
      (λ h. absurd (false≢true h)),
      (λ entails. absurd (equal_no c.args.protocol.now c.args.width c.args.lits.now c.args.domains.now c.args.masks.now c.requires.loaded c.args.a c.args.b c.open_to.result c.open_to-2.result c.requires.fits c.open_to.ensures c.open_to-2.ensures
          c.in-Some.field-0.0 c.in-Some.field-0.1 (sym c.is_same_term.ensures ∙ c.if-is_same_term.false) free.0 free.1 c.in-Some.ensures.has.0 c.in-Some.ensures.has.1 c.in-Some.ensures.has.2 entails)),
    )

pub returns-in-None-clause-exact : goal.returns-in-None-clause-exact
returns-in-None-clause-exact c = (
  (λ h. equal_yes c.args.protocol.now c.args.width c.args.lits.now c.args.domains.now c.args.masks.now c.requires.loaded c.args.a c.args.b c.open_to.result c.open_to-2.result c.requires.fits c.open_to.ensures c.open_to-2.ensures (c.in-None.ensures.none refl)),
  (λ entails. refl),
)
