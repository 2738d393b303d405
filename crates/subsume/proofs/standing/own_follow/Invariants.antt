use Rattle.std.proofs.Common.{◌≡◌, take}
use Rattle.subsume.specs.Standing.{OwnFollow}
use Rattle.subsume.specs.Ready.{IsReady}
use Rattle.subsume.proofs.standing.own_follow.Given as goal

abbrev pub invariant-loop-lit : goal.invariant-loop-lit
invariant-loop-lit l = record {
  ready : IsReady l.protocol l.small l.consistent l.scratch;
  count : l.scratch.tests ≡ l.fn.scratch.tests;
  follow : OwnFollow l.protocol (take l.lit-index l.lits) l.small l.places l.k;
}
