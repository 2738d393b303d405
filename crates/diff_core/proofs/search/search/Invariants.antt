-- The search goes on; each pass marks a node or reaches `from`.
use Rattle.std.proofs.Common.{◌≡◌, ◌+◌, ◌-◌, length, take, slice_index}
use Rattle.diff_core.specs.Table.{cell}
use Rattle.diff_core.specs.Search.{IsSearch}
use Rattle.diff_core.proofs.Searching.{unmarked}
use Rattle.diff_core.proofs.search.search.Given as goal

abbrev pub invariant-loop-rank : goal.invariant-loop-rank
invariant-loop-rank g l = record {
  rank_size : length l.rank ≡ 105;
  next_size : length l.next ≡ 105;
  search : IsSearch (take l.tried (g.C.Constraints.list l.constraints)) (cell l.entries) l.nodes l.target l.steps (slice_index l.rank) (slice_index l.next);
}

abbrev pub decreases-loop-rank : goal.decreases-loop-rank
decreases-loop-rank g l = (l.nodes - l.steps) + unmarked (slice_index l.rank l.from)
