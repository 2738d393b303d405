use Rattle.std.proofs.Common.{List, ℕ, subst}
use Rattle.journal_text.specs.Place.{Closes}
use Rattle.journal_text.proofs.Steps.{same_line}
use Rattle.journal_text.proofs.closing.closed.Goals as goal

pub returns-then-not-branch-clause-none : goal.returns-then-not-branch-clause-none
returns-then-not-branch-clause-none g c = λ legal last rest k.
    c.in_ok-closes.ensures.no c.if-not-branch.true legal last
    (subst (λ (l : List ℕ). Closes g.M.PreImages.pieces c.args.full c.args.log.now l last)
    (same_line c.args.text.now k.line rest c.in-Some.cut.bytes.now c.in-Some.cut.rest.now k.at c.in-Some.ensures.some) k.closes)
