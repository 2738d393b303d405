use Rattle.std.proofs.Common.{sym, ◌∙◌}
use Rattle.trace_text.specs.Text.{plain_text}
use Rattle.trace_text.proofs.PlainFacts.{plain_outside, plain_inside}
use Rattle.trace_text.proofs.Refused.{no_plain, differs}
use Rattle.trace_text.proofs.lines.plain_of.Goals as goal

pub returns-then-plain-steps_in-clause-none : goal.returns-then-plain-steps_in-clause-none
returns-then-plain-steps_in-clause-none c =
    no_plain c.args.processes c.args.events.now c.args.line.now c.plain_told-plain.result c.plain_told-plain.ensures
    (plain_outside c.args.processes c.args.events.now c.plain_told-plain.result c.args.line.now c.steps_in.result c.steps_in.ensures c.then-plain-steps_in.either)

pub returns-then-not-branch-clause-none : goal.returns-then-not-branch-clause-none
returns-then-not-branch-clause-none c =
    no_plain c.args.processes c.args.events.now c.args.line.now c.plain_told-plain.result c.plain_told-plain.ensures
    (λ t. differs (plain_text c.plain_told-plain.result) c.args.line.now (sym c.in_ok-plain_is_written.ensures ∙ c.if-not-branch.true) t.text)

pub returns-clause-found : goal.returns-clause-found
returns-clause-found c =
    plain_inside c.args.processes c.args.events.now c.plain_told-plain.result c.args.line.now c.steps_in.result c.steps_in.ensures c.requires.processes c.requires.few
    c.if-plain-steps_in.false c.if-plain-processes.false (sym c.in_ok-plain_is_written.ensures ∙ c.if-not-branch.false)
