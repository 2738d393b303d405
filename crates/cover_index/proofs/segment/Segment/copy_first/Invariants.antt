use Rattle.std.proofs.Common.{◌≡◌, length, take}
use Rattle.cover_index.proofs.segment.Segment.copy_first.Given as goal

abbrev pub invariant-loop-i : goal.invariant-loop-i
invariant-loop-i l = record {
  cubes : l.copy.cubes ≡ take l.i l.cubes;
  summaries : l.copy.summaries ≡ take l.i l.summaries;
  size : length l.copy.cubes ≡ l.i;
}
