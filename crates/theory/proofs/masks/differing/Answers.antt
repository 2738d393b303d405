use Rattle.fin_dom.proofs.Masks.{bit_below}
use Rattle.theory.proofs.masks.differing.Goals as goal

pub apart-requires : goal.apart-requires
apart-requires c = bit_below c.args.a c.in_ok-c.c c.ranges.a.fits c.in_ok-c.ensures.has
