use Rattle.std.proofs.Common.{◌≡◌, ◌+◌, drop}
use Rattle.trace_laws.specs.Standing.{position}
use Rattle.trace_build.proofs.standing.position.Given as goal

abbrev pub invariant-loop-at : goal.invariant-loop-at
invariant-loop-at l = l.at + position (drop l.at l.places) l.q ≡ position l.places l.q
