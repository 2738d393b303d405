use Rattle.cub_dnf.proofs.Sizing.{chained_is}
use Rattle.cub_dnf.proofs.measured.Measured.chained.Goals as goal

pub returns : goal.returns
returns c = λ a b l r.
    chained_is _ c.args.self c.args.right a b l r c.cut_sum-count.ensures c.max-width.ensures c.in_ok-list.ensures
