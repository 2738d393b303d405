use Rattle.std.proofs.Common.{◌≡◌, ℕ, ◌<◌, ◌≤◌, ◌-◌, ◌++◌, true}
use Rattle.std.specs.List.{list_any}
use Rattle.proc_eq.specs.Chosen.{forbids}
use Rattle.proc_eq.proofs.choice.least_free.Given as goal

abbrev pub invariant-loop-n : goal.invariant-loop-n
invariant-loop-n l = record {
  low : l.n ≤ l.own;
  below : (k : ℕ) → k < l.n → list_any (forbids l.labels l.processes l.own k) (l.lits ++ l.more) ≡ true;
}

abbrev pub decreases-loop-n : goal.decreases-loop-n
decreases-loop-n l = l.own - l.n
