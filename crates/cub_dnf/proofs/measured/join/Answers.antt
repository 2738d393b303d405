use Rattle.std.proofs.Common.{◌≡◌, subst}
use Rattle.std.specs.Prelude.{IfOk}
use Rattle.cub_dnf.proofs.Joining.{extended_is}
use Rattle.cub_dnf.proofs.measured.join.Goals as goal

pub returns-in-len1 : goal.returns-in-len1
returns-in-len1 c =
    subst (λ x. IfOk c.extended.result (λ list. list ≡ x))
    (extended_is c.args.left c.args.right c.as_slice.result.now c.only-item.result c.as_slice-in-len1.result.now
    c.as_slice.ensures c.in-len1.len_at_least c.in-len1.len_below c.only-item.is c.as_slice-in-len1.ensures)
    c.extended.ensures
