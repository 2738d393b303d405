use Rattle.std.proofs.Common.{◌≤◌, ◌<◌, ◌^◌, arith, lit<}
use Rattle.std.proofs.lemmas.Bool.Decides.{nat_tests}
use Rattle.std.proofs.Math.Nat.{pow-le-pow_right}
use Rattle.cub_proto.proofs.fits.is_below_power.Goals as goal

-- a mask of 64 bits is below each power from 64 on
pub returns-then-count-ge64 : goal.returns-then-count-ge64
returns-then-count-ge64 c =
    let many : 64 ≤ c.args.count = c.if-count-ge64.true in
    let small : c.args.mask < 2 ^ 64 = omega arith in
    let powers : 2 ^ 64 ≤ 2 ^ c.args.count = pow-le-pow_right (lit< tt) many in
    let below : c.args.mask < 2 ^ c.args.count = omega arith in
    grind (arith, nat_tests)
