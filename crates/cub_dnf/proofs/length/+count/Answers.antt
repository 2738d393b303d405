use Rattle.std.proofs.Common.{◌≡◌, ◌∙◌, ap, min, length}
use Rattle.cub_dnf.specs.Lists.{list_of}
use Rattle.cub_dnf.proofs.Parting.{at_not, at_all_true, at_all_false, at_any_true, at_any_false}
use Rattle.cub_dnf.proofs.Sizing.{counted_join, counted_chain}
use Rattle.cub_dnf.proofs.length.+count.Goals as goal

pub count-returns-in-Not : goal.count-returns-in-Not
count-returns-in-Not t c = λ sig.
    c.count.ensures sig ∙ ap (λ x. min 4097 (length x)) (at_not sig c.args.holds c.in-Not.is c.get.ensures)

pub count-returns-then-holds-2 : goal.count-returns-then-holds-2
count-returns-then-holds-2 t c = λ sig.
    c.joined_count.ensures sig ∙ ap (λ x. min 4097 (length x)) (at_all_true sig c.args.holds c.as_slice.ensures c.in-All.is c.if-holds-2.true)

pub count-returns-else-holds-2 : goal.count-returns-else-holds-2
count-returns-else-holds-2 t c = λ sig.
    c.chained_count.ensures sig ∙ ap (λ x. min 4097 (length x)) (at_all_false sig c.args.holds c.as_slice-else-holds-2.ensures c.in-All.is c.if-holds-2.false)

pub count-returns-then-holds-3 : goal.count-returns-then-holds-3
count-returns-then-holds-3 t c = λ sig.
    c.chained_count-then-holds-3.ensures sig ∙ ap (λ x. min 4097 (length x)) (at_any_true sig c.args.holds c.as_slice-then-holds-3.ensures c.in-Any.is c.if-holds-3.true)

pub count-returns-else-holds-3 : goal.count-returns-else-holds-3
count-returns-else-holds-3 t c = λ sig.
    c.joined_count-else-holds-3.ensures sig ∙ ap (λ x. min 4097 (length x)) (at_any_false sig c.args.holds c.as_slice-else-holds-3.ensures c.in-Any.is c.if-holds-3.false)

pub joined_count-loop-part-preserved : goal.joined_count-loop-part-preserved
joined_count-loop-part-preserved t c = λ sig.
    counted_join (list_of sig c.args.holds) c.args.parts.now c.loop-part.part-index c.part-item.result c.loop-part-test.true c.part-item.is
    (c.count-next.ensures sig) (c.loop-part.invariant sig) c.cut_product-found.ensures

pub chained_count-loop-part-preserved : goal.chained_count-loop-part-preserved
chained_count-loop-part-preserved t c = λ sig.
    counted_chain (list_of sig c.args.holds) c.args.parts.now c.loop-part.part-index c.part-item.result c.loop-part-test.true c.part-item.is
    (c.count-next.ensures sig) (c.loop-part.invariant sig) c.cut_sum-found.ensures
