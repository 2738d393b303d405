use Rattle.std.proofs.Common.{◌≡◌, ℕ, ◌<◌, get_or, ◌^◌, ◌-◌}
use Rattle.fin_dom.proofs.gather.clear.Given as goal

abbrev pub invariant-loop-mask : goal.invariant-loop-mask
invariant-loop-mask l = (n : ℕ) → n < l.mask-index → get_or l.masks n 0 ≡ 2 ^ 64 - 1
