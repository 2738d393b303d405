use Rattle.std.proofs.Common.{◌≡◌, drop, max}
use Rattle.cub_dnf.specs.Normal.{widest}
use Rattle.cub_types.proofs.targets.widest.Given as goal

abbrev pub invariant-loop-lits : goal.invariant-loop-lits
invariant-loop-lits l = max l.found (widest (drop l.lits-index l.list)) ≡ widest l.list
