use Rattle.fin_dom.proofs.Masks.{low_has}
use Rattle.theory.proofs.masks.low.Goals as goal

pub returns-clause-has : goal.returns-clause-has
returns-clause-has c some = low_has c.args.mask some c.ranges.mask.fits
