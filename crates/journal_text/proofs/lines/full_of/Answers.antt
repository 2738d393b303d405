use Rattle.std.proofs.Common.{sym, ◌∙◌}
use Rattle.journal_text.proofs.Refused.{no_full_written}
use Rattle.journal_text.proofs.lines.full_of.Goals as goal

pub returns-then-not-branch-clause-none : goal.returns-then-not-branch-clause-none
returns-then-not-branch-clause-none c =
    no_full_written c.args.line.now c.node_told.result c.number_told.result c.node_told.ensures c.number_told.ensures (sym c.in_ok-full_is_written.ensures ∙ c.if-not-branch.true)
