use Rattle.std.proofs.Common.{sym, ap, ◌∙◌, ◌+◌, arith}
use Rattle.cub_base.proofs.Bools.{less_is}
use Rattle.pieces.proofs.options.take_late.Goals as goal

pub late_place-q-requires : goal.late_place-q-requires
late_place-q-requires c =
    let below = less_is (c.args.work.now.inner + c.args.j) c.args.work.now.width (sym c.is_late.ensures ∙ c.if-is_late.true) in
    let same = ap (λ d. d.inner) c.work.view_is in
    omega (arith, below, same, c.requires.narrow)
