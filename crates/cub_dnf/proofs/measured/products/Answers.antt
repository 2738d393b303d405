use Rattle.cub_dnf.proofs.Joining.{joins_next}
use Rattle.cub_dnf.proofs.measured.products.Goals as goal

pub loop-conj-preserved : goal.loop-conj-preserved
loop-conj-preserved c =
    joins_next c.args.left.now c.args.right.now c.loop-conj.conj-index c.conj-item.result c.in_ok-push_joins.ensures c.loop-conj.invariant c.as_slice.ensures c.conj-item.is c.loop-conj-test.true
