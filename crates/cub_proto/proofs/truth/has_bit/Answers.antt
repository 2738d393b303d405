use Rattle.std.proofs.Common.{◌≡◌, ◌<◌, ◌^◌, arith}
use Rattle.std.proofs.lemmas.Grind.{common_steps}
use Rattle.std.proofs.lemmas.Nat.Bits.{bit_at_above}
use Rattle.std.specs.Int.{bit_at}
use Rattle.cub_proto.proofs.truth.has_bit.Goals as goal

-- a mask of 64 bits has no bit from 64 on
pub returns-else-constructor-lt64 : goal.returns-else-constructor-lt64
returns-else-constructor-lt64 c =
    let small : c.args.mask < 2 ^ 64 = omega arith in
    let above : bit_at c.args.mask c.args.constructor ≡ 0 =
    bit_at_above c.args.mask 64 c.args.constructor small c.if-constructor-lt64.false in
    grind (arith, common_steps)
