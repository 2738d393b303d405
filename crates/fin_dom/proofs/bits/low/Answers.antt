use Rattle.std.proofs.Common.{◌≡◌, ℕ, ◌<◌, true, sym, ◌∙◌, arith, IsTrue, eqb, ltb}
use Rattle.cub_proto.specs.Truth.{has_bit}
use Rattle.fin_dom.proofs.Masks.{low_has, low_least}
use Rattle.fin_dom.proofs.bits.low.Goals as goal

pub returns-clause-has : goal.returns-clause-has
returns-clause-has c some = low_has c.args.mask some c.ranges.mask.fits

pub returns-clause-least : goal.returns-clause-least
returns-clause-least c k h = low_least c.args.mask k c.ranges.mask.fits h
