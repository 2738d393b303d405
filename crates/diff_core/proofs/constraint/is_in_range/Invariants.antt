-- Constraints below the index are in range.
use Rattle.std.proofs.Common.{ℕ, ◌<◌}
use Rattle.diff_core.specs.Constraints.{constraint_at, IsInRange}
use Rattle.diff_core.proofs.constraint.is_in_range.Given as goal

abbrev pub invariant-loop-con : goal.invariant-loop-con
invariant-loop-con l = (k : ℕ) → k < l.con-index → IsInRange l.nodes (constraint_at l.constraints k)
