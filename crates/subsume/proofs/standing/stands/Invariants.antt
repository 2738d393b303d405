use Rattle.std.proofs.Common.{◌≡◌, ℕ, ◌≤◌, List, slice_index}
use Rattle.subsume.specs.Injections.{IsWhole}
use Rattle.subsume.specs.Ready.{IsReady}
use Rattle.subsume.proofs.standing.stands.Given as goal

abbrev pub invariant-loop-c : goal.invariant-loop-c
invariant-loop-c l = record {
  ready : IsReady l.protocol l.small l.consistent l.scratch;
  count : l.scratch.tests ≡ l.fn.scratch.tests;
  tried : (q : List ℕ) → IsWhole l.protocol l.big l.small q → l.c ≤ slice_index q l.k;
}
