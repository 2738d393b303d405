use Rattle.std.proofs.Common.{◌≡◌, ◌++◌, map, take, drop, cond}
use Rattle.std.specs.Prelude.{nat_lt}
use Rattle.cover_index.proofs.noting.revive.Given as goal

abbrev pub invariant-loop-by : goal.invariant-loop-by
invariant-loop-by l = l.retired ≡ take l.by-index (map (λ by. cond (nat_lt by l.count) by 0) l.initial.retired) ++ drop l.by-index l.initial.retired
