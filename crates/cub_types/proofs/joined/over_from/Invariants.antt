use Rattle.std.proofs.Common.{◌≡◌, ◌≤◌, drop}
use Rattle.cub_types.specs.Joined.{over_from}
use Rattle.cub_types.proofs.joined.over_from.Given as goal

abbrev pub invariant-loop-w : goal.invariant-loop-w
invariant-loop-w l = record {
  small : l.total ≤ 64;
  same : l.first ≡ l.fn.first;
  left : over_from l.params l.target l.total (drop l.w-index l.kept) ≡ over_from l.params l.target 0 l.kept;
}
