use Rattle.std.proofs.Common.{◌≡◌, ◌+◌, drop}
use Rattle.journal_text.specs.Text.{least_wide}
use Rattle.journal_text.proofs.writer.least_wide.Given as goal

abbrev pub invariant-loop-at : goal.invariant-loop-at
invariant-loop-at l = l.at + least_wide l.budget (drop l.at l.nodes) ≡ least_wide l.budget l.nodes
