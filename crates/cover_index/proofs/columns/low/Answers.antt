use Rattle.fin_dom.proofs.Masks.{low_least}
use Rattle.cover_index.proofs.columns.low.Goals as goal

pub returns : goal.returns
returns c k h = low_least c.args.word k c.ranges.word.fits h
