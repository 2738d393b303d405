use Rattle.std.proofs.Common.{◌≡◌, ℕ, ◌+◌, ◌*◌, ◌-◌, ◌≤◌, List, length, take, slice_index}
use Rattle.subsume.specs.Injections.{IsWhole}
use Rattle.subsume.specs.Ready.{IsReady}
use Rattle.subsume.proofs.injections.+search.Given as goal

abbrev pub decreases-attempt : goal.decreases-attempt
decreases-attempt l = 2 * (l.big.now.width - l.k)

abbrev pub decreases-complete : goal.decreases-complete
decreases-complete l = 2 * (l.big.now.width - l.k) + 1

abbrev pub invariant-complete-loop-c : goal.invariant-complete-loop-c
invariant-complete-loop-c l = record {
  ready : IsReady l.protocol l.small l.consistent l.scratch;
  count : l.scratch.tests ≡ l.fn.scratch.tests;
  size : length l.places ≡ 12;
  front : take l.k l.places ≡ take l.k l.fn.places;
  tried : (q : List ℕ) → IsWhole l.protocol l.big l.small q → take l.k q ≡ take l.k l.fn.places → l.c ≤ slice_index q l.k;
}
