use Rattle.std.proofs.Common.{◌≡◌, ◌∙◌, sym, refl, true, false}
use Rattle.std.proofs.lemmas.Bool.{false≢true}
use Rattle.cub_base.proofs.Bools.{and_left, and_right, and_both}
use Rattle.cub_proto.specs.Truth.{has_bit}
use Rattle.theory.proofs.Following.{both_entries, other_yes, other_no, same_no}
use Rattle.theory.proofs.entailment.other_follows.Goals as goal

pub returns-then-is_same_term-clause-exact : goal.returns-then-is_same_term-clause-exact
returns-then-is_same_term-clause-exact c = (
  (λ h. absurd (false≢true h)),
  (λ entails. absurd (same_no c.args.protocol.now c.args.width c.args.lits.now c.args.domains.now c.args.masks.now c.requires.loaded c.args.a c.args.b (sym c.is_same_term.ensures ∙ c.if-is_same_term.true) c.requires.fits entails)),
)

pub open_to-requires : goal.open_to-requires
open_to-requires c = (both_entries c.args.protocol.now c.args.width c.args.lits.now c.args.domains.now c.args.masks.now c.requires.loaded c.args.a c.args.b c.requires.fits).0

pub open_to-requires-2 : goal.open_to-requires-2
open_to-requires-2 c = (both_entries c.args.protocol.now c.args.width c.args.lits.now c.args.domains.now c.args.masks.now c.requires.loaded c.args.a c.args.b c.requires.fits).1

pub returns-then-are_free-clause-exact : goal.returns-then-are_free-clause-exact
returns-then-are_free-clause-exact c =
    let free = c.are_free.ensures.0 c.if-are_free.true in
    let there = sym (c.both.ensures c.in-Some.field-0) ∙ c.in-Some.ensures.has in (
      (λ h. absurd (false≢true h)),
      (λ entails. absurd (other_no c.args.protocol.now c.args.width c.args.lits.now c.args.domains.now c.args.masks.now c.requires.loaded c.args.a c.args.b c.open_to.result c.open_to-2.result c.requires.fits c.open_to.ensures c.open_to-2.ensures
          c.in-Some.field-0 (sym c.is_same_term.ensures ∙ c.if-is_same_term.false) free.0 free.1
          (and_left (has_bit c.open_to.result c.in-Some.field-0) (has_bit c.open_to-2.result c.in-Some.field-0) there)
          (and_right (has_bit c.open_to.result c.in-Some.field-0) (has_bit c.open_to-2.result c.in-Some.field-0) there) entails)),
    )

pub returns-in-None-clause-exact : goal.returns-in-None-clause-exact
returns-in-None-clause-exact c = (
  (λ h. other_yes c.args.protocol.now c.args.width c.args.lits.now c.args.domains.now c.args.masks.now c.requires.loaded c.args.a c.args.b c.open_to.result c.open_to-2.result c.requires.fits c.open_to.ensures c.open_to-2.ensures
      (λ x first second. c.in-None.ensures.none refl x (c.both.ensures x ∙ and_both (has_bit c.open_to.result x) (has_bit c.open_to-2.result x) first second))),
  (λ entails. refl),
)
