use Rattle.std.proofs.Common.{◌≡◌, ℕ, ◌<◌, true, sym, ◌∙◌, arith, IsTrue, eqb, ltb}
use Rattle.cub_proto.specs.Truth.{has_bit}
use Rattle.fin_dom.proofs.Masks.{bit_below, without_bits, without_less}
use Rattle.fin_dom.proofs.bits.without.Goals as goal

pub bit-requires : goal.bit-requires
bit-requires c = bit_below c.args.mask c.args.constructor c.ranges.mask.fits c.requires

pub returns-clause-bits : goal.returns-clause-bits
returns-clause-bits c k =
    rw c.bit.ensures (without_bits c.args.mask c.args.constructor k c.ranges.mask.fits (bit_below c.args.mask c.args.constructor c.ranges.mask.fits c.requires))

pub returns-clause-less : goal.returns-clause-less
returns-clause-less c = rw c.bit.ensures (without_less c.args.mask c.args.constructor c.ranges.mask.fits c.requires)
