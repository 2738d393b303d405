use Rattle.std.proofs.Common.{◌≡◌, ℕ, ◌+◌, ◌*◌, ◌-◌, ◌<◌, ◌≤◌, List, length, take}
use Rattle.std.specs.Prelude.{All, slice_index}
use Rattle.cub_cube.specs.Cover.{Covers}
use Rattle.cert_check.specs.Injections.{IsReady, cube_of}
use Rattle.cert_check.proofs.injections.+search.Given as goal

abbrev pub decreases-attempt : goal.decreases-attempt
decreases-attempt l = 2 * (l.count - l.k)

abbrev pub decreases-complete : goal.decreases-complete
decreases-complete l = 2 * (l.count - l.k) + 1

abbrev pub invariant-complete-loop-c : goal.invariant-complete-loop-c
invariant-complete-loop-c l = record {
  ready : IsReady l.protocol l.width l.lits l.scratch;
  size : length l.places ≡ l.count;
  within : All (λ q. q < l.width) l.places;
  front : take l.k l.places ≡ take l.k l.fn.places;
  tried : (q : List ℕ) → Covers l.protocol (cube_of l.count l.big) (cube_of l.width l.lits) q → take l.k q ≡ take l.k l.fn.places → l.c ≤ slice_index q l.k;
}
