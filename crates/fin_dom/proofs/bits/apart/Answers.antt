use Rattle.std.proofs.Common.{◌≡◌, ℕ, ◌<◌, true, sym, ◌∙◌, arith, IsTrue, eqb, ltb}
use Rattle.cub_proto.specs.Truth.{has_bit}
use Rattle.fin_dom.proofs.Masks.{apart_single, apart_many}
use Rattle.fin_dom.proofs.bits.apart.Goals as goal
use Rattle.std.proofs.lemmas.Bool.{eqb-true, eqb-false}

pub returns-then-is_single : goal.returns-then-is_single
returns-then-is_single c k = apart_single c.args.mask c.args.other k c.ranges.mask.fits c.ranges.other.fits (eqb-true _ _ (sym c.is_single.ensures ∙ c.if-is_single.true))

pub returns-else-is_single : goal.returns-else-is_single
returns-else-is_single c k = apart_many c.args.mask c.args.other k c.ranges.other.fits (eqb-false _ _ (sym c.is_single.ensures ∙ c.if-is_single.false))
