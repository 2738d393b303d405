-- The search goes on, and where no node was marked, nothing is left to mark by a constraint below k.
use Rattle.std.proofs.Common.{◌≡◌, ℕ, ◌<◌, ◌≤◌, length, take, slice_index}
use Rattle.diff_core.specs.Constraints.{constraint_at}
use Rattle.diff_core.specs.Table.{cell, far}
use Rattle.diff_core.specs.Search.{IsSearch, IsDoneAt}
use Rattle.diff_core.proofs.search.pass.Given as goal

abbrev pub invariant-loop-k : goal.invariant-loop-k
invariant-loop-k g l = record {
  rank_size : length l.rank ≡ 105;
  next_size : length l.next ≡ 105;
  search : IsSearch (take l.tried (g.C.Constraints.list l.constraints)) (cell l.entries) l.nodes l.target l.marked (slice_index l.rank) (slice_index l.next);
  more : l.steps ≤ l.marked;
  done : l.marked ≡ l.steps → (k : ℕ) → k < l.k → IsDoneAt far (cell l.entries) l.target (slice_index l.rank) (constraint_at (g.C.Constraints.list l.constraints) k);
}
