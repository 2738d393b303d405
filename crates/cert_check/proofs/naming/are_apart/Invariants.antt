use Rattle.std.proofs.Common.{take}
use Rattle.std.specs.Prelude.{◌≢◌, AllPairs}
use Rattle.cert_check.proofs.naming.are_apart.Given as goal

abbrev pub invariant-loop-i : goal.invariant-loop-i
invariant-loop-i l = AllPairs (λ x y. x ≢ y) (take l.i l.places)
