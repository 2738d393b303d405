use Rattle.std.proofs.Common.{◌≡◌, ◌<◌, ◌^◌, arith}
use Rattle.fin_dom.proofs.Narrowing.{narrowed_side, narrowed_nothing}
use Rattle.fin_dom.proofs.narrow.narrow_side.Goals as goal

pub returns-then-left-eq0-clause-none : goal.returns-then-left-eq0-clause-none
returns-then-left-eq0-clause-none c _ =
    narrowed_nothing c.args.masks.now c.args.i c.narrowed_by-left.result c.args.lit.now c.requires.inside c.requires.fits c.if-left-eq0.true c.narrowed_by-left.ensures

pub returns-clause-narrows : goal.returns-clause-narrows
returns-clause-narrows c _ =
    narrowed_side c.args.masks.now c.args.i c.narrowed_by-left.result c.args.lit.now c.requires.masks c.requires.inside c.requires.fits (omega arith)
    (omega (arith, c.narrowed_by-left.type_inv)) c.narrowed_by-left.ensures
