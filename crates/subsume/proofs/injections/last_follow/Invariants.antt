use Rattle.std.proofs.Common.{◌≡◌, take}
use Rattle.subsume.specs.Injections.{LastFollow}
use Rattle.subsume.specs.Ready.{IsReady}
use Rattle.subsume.proofs.injections.last_follow.Given as goal

abbrev pub invariant-loop-lit : goal.invariant-loop-lit
invariant-loop-lit l = record {
  ready : IsReady l.protocol l.small l.consistent l.scratch;
  count : l.scratch.tests ≡ l.fn.scratch.tests;
  follow : LastFollow l.protocol (take l.lit-index l.lits) l.small l.places;
}
