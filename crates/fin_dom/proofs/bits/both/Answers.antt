use Rattle.std.proofs.Common.{◌≡◌, ℕ, ◌<◌, true, sym, ◌∙◌, arith, IsTrue, eqb, ltb}
use Rattle.cub_proto.specs.Truth.{has_bit}
use Rattle.fin_dom.proofs.Masks.{both_bits}
use Rattle.fin_dom.proofs.bits.both.Goals as goal

pub returns : goal.returns
returns c k = both_bits c.args.a c.args.b k
