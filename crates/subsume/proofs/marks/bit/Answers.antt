use Rattle.std.proofs.Common.{ap, ◌∙◌}
use Rattle.cub_proto.specs.Truth.{has_bit}
use Rattle.subsume.proofs.Bits.{power_bits}
use Rattle.subsume.proofs.marks.bit.Goals as goal

pub returns-then-number-lt64 : goal.returns-then-number-lt64
returns-then-number-lt64 c b below = ap (λ w. has_bit w b) c.power.ensures ∙ power_bits c.args.number b
