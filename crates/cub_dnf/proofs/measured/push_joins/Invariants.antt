use Rattle.std.proofs.Common.{◌≡◌, ◌++◌, map, take}
use Rattle.cub_dnf.proofs.measured.push_joins.Given as goal

abbrev pub invariant-loop-conj : goal.invariant-loop-conj
invariant-loop-conj l = l.list ≡ l.initial.list ++ map (λ d. l.front ++ d) (take l.conj-index l.right)
