-- Rows below i are clear.
use Rattle.std.proofs.Common.{◌≡◌, ◌≢◌, ℕ, ◌<◌, pos}
use Rattle.diff_core.specs.Table.{cell, far}
use Rattle.diff_core.proofs.closure.clear.Given as goal

abbrev pub invariant-loop-i : goal.invariant-loop-i
invariant-loop-i l = (k : ℕ) → k < l.i → (j : ℕ) → j < l.nodes → (k ≡ j → cell l.entries k j ≡ pos 0) × (k ≢ j → cell l.entries k j ≡ far)
