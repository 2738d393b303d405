use Rattle.std.proofs.Common.{◌+◌, sym, ◌∙◌, ap, arith}
use Rattle.text_lines.specs.Word.{word}
use Rattle.text_lines.specs.Number.{counted}
use Rattle.trace_text.specs.Text.{count_text}
use Rattle.trace_text.proofs.Refused.{no_count, differs}
use Rattle.trace_text.proofs.lines.count_of.Goals as goal

pub returns-then-less-ge-MOST_PROCESSES-clause-none : goal.returns-then-less-ge-MOST_PROCESSES-clause-none
returns-then-less-ge-MOST_PROCESSES-clause-none c =
    no_count c.args.line.now c.counted-less.result (c.counted-less.ensures ∙ ap counted (c.next_word-2.ensures.word ∙ ap word c.next_word.ensures.rest))
    (λ t. let few = t.few in let many = c.if-less-ge-MOST_PROCESSES.true in omega arith)

pub returns-then-not-branch-clause-none : goal.returns-then-not-branch-clause-none
returns-then-not-branch-clause-none c =
    no_count c.args.line.now c.counted-less.result (c.counted-less.ensures ∙ ap counted (c.next_word-2.ensures.word ∙ ap word c.next_word.ensures.rest))
    (λ t. differs (count_text (c.counted-less.result + 1)) c.args.line.now (sym c.in_ok-count_is_written.ensures ∙ c.if-not-branch.true) t.text)
