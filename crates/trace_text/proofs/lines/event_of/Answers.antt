use Rattle.std.proofs.Common.{◌≡◌, true, sym, ◌∙◌}
use Rattle.trace_text.specs.Text.{event_text}
use Rattle.trace_text.proofs.Refused.{no_event, nothing_told, differs}
use Rattle.trace_text.proofs.lines.event_of.Goals as goal

pub returns-in_default-clause-none : goal.returns-in_default-clause-none
returns-in_default-clause-none c =
    nothing_told c.args.protocol.now c.args.processes c.args.line.now (sym c.in_ok-event.ensures ∙ c.in_default.is)

pub returns-then-not-is_lawful_event-clause-none : goal.returns-then-not-is_lawful_event-clause-none
returns-then-not-is_lawful_event-clause-none c =
    no_event c.args.protocol.now c.args.processes c.args.line.now c.in-Some.event (sym c.in-Some.is ∙ c.in_ok-event.ensures)
    (λ t.
    let lawful : c.is_lawful_event.result ≡ true = c.is_lawful_event.ensures.1 t.lawful in
    let answer = c.if-not-is_lawful_event.true in
    cc)

pub returns-then-not-branch-clause-none : goal.returns-then-not-branch-clause-none
returns-then-not-branch-clause-none c =
    no_event c.args.protocol.now c.args.processes c.args.line.now c.in-Some.event (sym c.in-Some.is ∙ c.in_ok-event.ensures)
    (λ t. differs (event_text c.args.protocol.now c.in-Some.event) c.args.line.now (sym c.in_ok-event_is_written.ensures ∙ c.if-not-branch.true) t.text)
