use Rattle.std.proofs.Common.{◌≡◌, ◌++◌, map, take}
use Rattle.cub_types.proofs.joined.push_branches.Given as goal

abbrev pub invariant-loop-lits : goal.invariant-loop-lits
invariant-loop-lits l = l.branches ≡ l.fn.branches ++ map (λ cond. record { cond = l.front ++ cond; value = l.value }) (take l.lits-index l.conds)
