use Rattle.std.proofs.Common.{◌≡◌}
use Rattle.subsume.specs.Ready.{IsReady}
use Rattle.subsume.proofs.standing.each_stands.Given as goal

abbrev pub invariant-loop-k : goal.invariant-loop-k
invariant-loop-k l = record {
  ready : IsReady l.protocol l.small l.consistent l.scratch;
  count : l.scratch.tests ≡ l.fn.scratch.tests;
}
