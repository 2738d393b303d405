-- What is written leads to the node; ranks fall.
use Rattle.std.proofs.Common.{◌≡◌, length, slice_index}
use Rattle.diff_core.specs.Search.{HasArrived}
use Rattle.diff_core.proofs.Ways.{IsWay}
use Rattle.diff_core.proofs.search.write_cycle.Given as goal

abbrev pub invariant-loop-node : goal.invariant-loop-node
invariant-loop-node g l = record {
  size : length l.out ≡ 105;
  way : (arrived : HasArrived (g.C.Constraints.list l.constraints) l.nodes l.failed (slice_index l.rank) (slice_index l.next)) →
      IsWay (g.C.Constraints.list l.constraints) l.nodes l.failed (slice_index l.rank) (slice_index l.next) arrived l.node l.length l.out;
}

abbrev pub decreases-loop-node : goal.decreases-loop-node
decreases-loop-node g l = slice_index l.rank l.node
