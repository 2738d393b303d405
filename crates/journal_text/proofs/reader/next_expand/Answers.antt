use Rattle.std.proofs.Common.{sym, ◌∙◌}
use Rattle.journal_text.proofs.Steps.{same_line}
use Rattle.journal_text.proofs.reader.next_expand.Goals as goal

pub returns-in_default-clause-none : goal.returns-in_default-clause-none
returns-in_default-clause-none c = λ line behind node at few is. let none = c.in_default.ensures.none in absurd cc

pub returns-in_default-2-clause-none : goal.returns-in_default-2-clause-none
returns-in_default-2-clause-none c = λ line behind node at few is.
    (rw c.in_default-2.is at c.in_ok-node.ensures.none) node few
    (sym (same_line c.args.text.now line behind c.in-Some.cut.bytes.now c.in-Some.cut.rest.now at c.in-Some.ensures.some) ∙ is)
