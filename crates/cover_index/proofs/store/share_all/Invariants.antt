use Rattle.std.proofs.Common.{◌≡◌, take}
use Rattle.cover_index.proofs.store.share_all.Given as goal

abbrev pub invariant-loop-segment : goal.invariant-loop-segment
invariant-loop-segment l = l.list.items ≡ take l.segment-index l.segments
