use Rattle.fin_dom.proofs.Masks.{bit_below}
use Rattle.theory.proofs.masks.other_pair.Goals as goal

pub apart-requires : goal.apart-requires
apart-requires c = bit_below c.args.a c.args.c c.ranges.a.fits c.requires.first
