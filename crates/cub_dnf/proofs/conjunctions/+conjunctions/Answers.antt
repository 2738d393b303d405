use Rattle.std.proofs.Common.{◌≡◌, subst, rules}
use Rattle.std.specs.Prelude.{IfOk}
use Rattle.cub_proto.specs.StateOf.{signature_of}
use Rattle.cub_dnf.specs.declared.formula.Formula.{the_lemmas}
use Rattle.cub_dnf.specs.Lists.{list_of}
use Rattle.cub_dnf.specs.Measured.{measured}
use Rattle.cub_dnf.proofs.Parting.{at_all_true, at_all_false, at_any_true, at_any_false, bound_fits, all_parts_fit, any_parts_fit}
use Rattle.cub_dnf.proofs.Bounded.{bound_is_read}
use Rattle.cub_dnf.proofs.Sizing.{measured_join, measured_chain}
use Rattle.cub_dnf.proofs.conjunctions.+conjunctions.Goals as goal

pub conjunctions-equation-requires : goal.conjunctions-equation-requires
conjunctions-equation-requires t c =
    bound_is_read c.in-IntEq.bound (bound_fits (signature_of c.args.protocol.now) c.args.width c.requires c.in-IntEq.is)

pub conjunctions-all_joined-requires : goal.conjunctions-all_joined-requires
conjunctions-all_joined-requires t c =
    (search (rules, the_lemmas), all_parts_fit (signature_of c.args.protocol.now) c.args.width c.requires c.as_slice.ensures c.in-All.is)

pub conjunctions-all_chained-requires : goal.conjunctions-all_chained-requires
conjunctions-all_chained-requires t c =
    (search (rules, the_lemmas), all_parts_fit (signature_of c.args.protocol.now) c.args.width c.requires c.as_slice-else-holds.ensures c.in-All.is)

pub conjunctions-all_chained-requires-then-holds-2 : goal.conjunctions-all_chained-requires-then-holds-2
conjunctions-all_chained-requires-then-holds-2 t c =
    (search (rules, the_lemmas), any_parts_fit (signature_of c.args.protocol.now) c.args.width c.requires c.as_slice-then-holds-2.ensures c.in-Any.is)

pub conjunctions-all_joined-requires-else-holds-2 : goal.conjunctions-all_joined-requires-else-holds-2
conjunctions-all_joined-requires-else-holds-2 t c =
    (search (rules, the_lemmas), any_parts_fit (signature_of c.args.protocol.now) c.args.width c.requires c.as_slice-else-holds-2.ensures c.in-Any.is)

pub conjunctions-returns-then-holds : goal.conjunctions-returns-then-holds
conjunctions-returns-then-holds t c =
    subst (λ x. IfOk c.all_joined.result (λ m. m ≡ measured x))
    (at_all_true (signature_of c.args.protocol.now) c.args.holds c.as_slice.ensures c.in-All.is c.if-holds.true) c.all_joined.ensures

pub conjunctions-returns-else-holds : goal.conjunctions-returns-else-holds
conjunctions-returns-else-holds t c =
    subst (λ x. IfOk c.all_chained.result (λ m. m ≡ measured x))
    (at_all_false (signature_of c.args.protocol.now) c.args.holds c.as_slice-else-holds.ensures c.in-All.is c.if-holds.false) c.all_chained.ensures

pub conjunctions-returns-then-holds-2 : goal.conjunctions-returns-then-holds-2
conjunctions-returns-then-holds-2 t c =
    subst (λ x. IfOk c.all_chained-then-holds-2.result (λ m. m ≡ measured x))
    (at_any_true (signature_of c.args.protocol.now) c.args.holds c.as_slice-then-holds-2.ensures c.in-Any.is c.if-holds-2.true) c.all_chained-then-holds-2.ensures

pub conjunctions-returns-else-holds-2 : goal.conjunctions-returns-else-holds-2
conjunctions-returns-else-holds-2 t c =
    subst (λ x. IfOk c.all_joined-else-holds-2.result (λ m. m ≡ measured x))
    (at_any_false (signature_of c.args.protocol.now) c.args.holds c.as_slice-else-holds-2.ensures c.in-Any.is c.if-holds-2.false) c.all_joined-else-holds-2.ensures

pub all_joined-loop-part-preserved : goal.all_joined-loop-part-preserved
all_joined-loop-part-preserved t c =
    measured_join (list_of (signature_of c.args.protocol.now) c.args.holds) c.args.parts.now c.loop-part.part-index c.part-item.result c.loop-part-test.true c.part-item.is
    c.in_ok-next.ensures c.loop-part.invariant c.in_ok-found-2.ensures

pub all_chained-loop-part-preserved : goal.all_chained-loop-part-preserved
all_chained-loop-part-preserved t c =
    measured_chain (list_of (signature_of c.args.protocol.now) c.args.holds) c.args.parts.now c.loop-part.part-index c.part-item.result c.loop-part-test.true c.part-item.is
    c.in_ok-next.ensures c.loop-part.invariant c.in_ok-found-2.ensures
