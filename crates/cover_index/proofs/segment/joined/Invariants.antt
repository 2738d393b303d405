use Rattle.std.proofs.Common.{◌<◌, ℕ}
use Rattle.cover_index.specs.Asked.{summary_at, Joins}
use Rattle.cover_index.proofs.segment.joined.Given as goal

abbrev pub invariant-loop-i : goal.invariant-loop-i
invariant-loop-i l = (j : ℕ) → j < l.i → Joins (summary_at l.summaries j) l.all
