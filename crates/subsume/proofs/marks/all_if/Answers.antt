use Rattle.std.proofs.Common.{◌≡◌, ◌∙◌, ◌||◌, true, refl, sym, ap}
use Rattle.cub_proto.specs.Truth.{has_bit}
use Rattle.subsume.proofs.Bits.{all_bits}
use Rattle.subsume.proofs.marks.all_if.Goals as goal

pub returns-then-filled : goal.returns-then-filled
returns-then-filled c b below = all_bits b below ∙ sym (ap (λ x. x || has_bit c.args.word b) c.if-filled.true)
