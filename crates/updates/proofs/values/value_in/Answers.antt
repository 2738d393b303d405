use Rattle.std.proofs.Common.{◌≡◌, ◌+◌, false, drop, get_or, refl, sym, ap, ◌∙◌}
use Rattle.std.specs.Prelude.{◌==◌, if◌then◌else◌}
use Rattle.std.specs.Ordering.{is_eq, ordering_index}
use Rattle.std.specs.declared.cmp.Ordering.{Ordering}
use Rattle.std.specs.declared.cmp.Ordering.TheVariants.{Less, Equal, Greater}
use Rattle.cub_proto.specs.declared.literal.Term.TheVariants as Term
use Rattle.cub_proto.specs.declared.literal.Value.TheVariants as Value
use Rattle.updates.specs.Chosen.{same_term, value_in}
use Rattle.updates.proofs.Pushing.{value_step}
use Rattle.updates.proofs.values.value_in.Goals as goal

equal_index : (o : Ordering) → (ordering_index o == 1) ≡ is_eq o
equal_index Less = refl
equal_index Equal = refl
equal_index Greater = refl

pub loop-at-preserved : goal.loop-at-preserved
loop-at-preserved c =
    let terms = c.args.terms.now in
    let values = c.args.values.now in
    let i = c.loop-at.at in
    let apart : same_term (get_or terms i (Term.Global 0)) c.args.term ≡ false = ap is_eq (sym c.compare_terms.ensures) ∙ sym (equal_index c.compare_terms.result) ∙ sym c.eq.ensures ∙ c.if-eq.false in
    sym (ap (λ b. if b then get_or values i Value.Any else value_in (drop (i + 1) terms) (drop (i + 1) values) c.args.term) apart)
    ∙ sym (value_step terms values c.args.term i (Term.Global 0) Value.Any c.loop-at-test.true c.requires) ∙ c.loop-at.invariant
