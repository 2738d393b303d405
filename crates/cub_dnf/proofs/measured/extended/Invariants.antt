use Rattle.std.proofs.Common.{◌≡◌, ◌++◌, map}
use Rattle.cub_dnf.proofs.measured.extended.Given as goal

abbrev pub invariant-loop-conj : goal.invariant-loop-conj
invariant-loop-conj l = l.list ≡ map (λ c. c ++ l.tail) l.yielded
