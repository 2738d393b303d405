use Rattle.std.proofs.Common.{sym, ◌∙◌}
use Rattle.journal_text.proofs.Refused.{no_budget}
use Rattle.journal_text.proofs.lines.budget_of.Goals as goal

pub returns-then-not-branch-clause-none : goal.returns-then-not-branch-clause-none
returns-then-not-branch-clause-none c =
    no_budget c.args.line.now c.in-Some.budget c.in-Some.ensures.cubes c.in-Some.ensures.width (sym c.in_ok-budget_is_written.ensures ∙ c.if-not-branch.true)
