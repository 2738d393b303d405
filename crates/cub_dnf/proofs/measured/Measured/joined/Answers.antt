use Rattle.cub_dnf.proofs.Sizing.{joined_is}
use Rattle.cub_dnf.proofs.measured.Measured.joined.Goals as goal

pub returns : goal.returns
returns c = λ a b l r.
    joined_is _ c.args.self c.args.right a b l r c.cut_product-count.ensures c.joined_width-width.ensures c.in_ok-list.ensures
