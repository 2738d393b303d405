use Rattle.std.proofs.Common.{length}
use Rattle.journal_text.proofs.Looping.{IsReadItems}
use Rattle.journal_text.proofs.items.read_items.Given as goal

abbrev pub invariant-loop-items : goal.invariant-loop-items
invariant-loop-items l = IsReadItems l.protocol l.node l.items l.at l.rest l.line l.text

abbrev pub decreases-loop-items : goal.decreases-loop-items
decreases-loop-items l = length l.rest
