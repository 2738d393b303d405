use Rattle.std.proofs.Common.{◌≡◌, ◌<◌, ℕ, length}
use Rattle.log_form.specs.Links.{cube_at}
use Rattle.subsume.specs.Summary.{IsSummary}
use Rattle.cover_index.specs.Asked.{summary_at}
use Rattle.cover_index.proofs.segment.summaries_of.Given as goal

abbrev pub invariant-loop-i : goal.invariant-loop-i
invariant-loop-i l = record {
  one_each : length l.summaries ≡ l.i;
  own : (j : ℕ) → j < l.i → IsSummary l.protocol (cube_at l.cubes j) (summary_at l.summaries j);
}
