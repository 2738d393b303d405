use Rattle.std.proofs.Common.{sym, ◌∙◌}
use Rattle.journal_text.proofs.Refused.{no_expand_written}
use Rattle.journal_text.proofs.lines.expand_of.Goals as goal

pub returns-then-not-branch-clause-none : goal.returns-then-not-branch-clause-none
returns-then-not-branch-clause-none c =
    no_expand_written c.args.line.now c.expand_told-node.result c.expand_told-node.ensures (sym c.in_ok-expand_is_written.ensures ∙ c.if-not-branch.true)
