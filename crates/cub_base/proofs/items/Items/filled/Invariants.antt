use Rattle.std.proofs.Common.{◌≡◌, replicate}
use Rattle.cub_base.proofs.items.Items.filled.Given as goal

abbrev pub invariant-loop-done : goal.invariant-loop-done
invariant-loop-done g l = l.list ≡ replicate l._done l.item
