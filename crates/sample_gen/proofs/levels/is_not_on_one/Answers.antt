use Rattle.std.proofs.Common.{ℕ, ◌≤◌, ◌+◌, ◌-◌, ◌^◌, arith}
use Rattle.std.proofs.Math.Pow.{pow_mono}
use Rattle.sample_gen.proofs.levels.is_not_on_one.Goals as goal

mono : (i j : ℕ) → i ≤ j → 2 ^ i ≤ 2 ^ j
mono i j h = pow_mono h

pub overflow_sub-result : goal.overflow_sub-result
overflow_sub-result c = let more = mono 2 (c.args.top + 1) (omega (arith, c.requires.low)) in omega (arith, more)
