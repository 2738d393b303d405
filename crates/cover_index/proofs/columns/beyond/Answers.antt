use Rattle.fin_dom.proofs.Masks.{outside_bits}
use Rattle.cover_index.proofs.columns.beyond.Goals as goal

pub returns : goal.returns
returns c k = outside_bits c.args.a c.args.b k c.ranges.a.fits c.ranges.b.fits
