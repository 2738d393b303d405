use Rattle.std.proofs.Common.{◌≡◌, cond, refl, inr, sym, ◌∙◌}
use Rattle.std.proofs.lemmas.Bool.{cond-true, cond-false}
use Rattle.trace_text.specs.Place.{Events, behind_goal, begins_event}
use Rattle.trace_text.proofs.Steps.{goes_on, no_line, bad_line}
use Rattle.trace_text.proofs.Stuck.{no_goal_stands}
use Rattle.trace_text.proofs.reader.read_goal.Goals.{then-begins_event, else-begins_event}
use Rattle.trace_text.proofs.reader.read_goal.Goals as goal

pub returns-in_default-clause-err : goal.returns-in_default-clause-err
returns-in_default-clause-err c = λ crashes.
    let kind : cond (begins_event c.args.text.now) 4 5 ≡ c.if-begins_event.kind = elim c.if-begins_event.branch [
      | then-begins_event w ↦ cond-true (begins_event c.args.text.now) 4 5 (sym c.begins_event.ensures ∙ w.if-begins_event.true) ∙ sym w.kind-is
      | else-begins_event w ↦ cond-false (begins_event c.args.text.now) 4 5 (sym c.begins_event.ensures ∙ w.if-begins_event.false) ∙ sym w.kind-is
    ] in
    no_line c.args.protocol.now (Events crashes c.args.start.now c.args.events.now) c.args.line c.args.text.now refl c.if-begins_event.kind kind c.in_default.ensures.none

pub returns-in_default-2-clause-err : goal.returns-in_default-2-clause-err
returns-in_default-2-clause-err c = λ crashes.
    let kind : cond (begins_event c.args.text.now) 4 5 ≡ c.if-begins_event.kind = elim c.if-begins_event.branch [
      | then-begins_event w ↦ cond-true (begins_event c.args.text.now) 4 5 (sym c.begins_event.ensures ∙ w.if-begins_event.true) ∙ sym w.kind-is
      | else-begins_event w ↦ cond-false (begins_event c.args.text.now) 4 5 (sym c.begins_event.ensures ∙ w.if-begins_event.false) ∙ sym w.kind-is
    ] in
    bad_line c.args.protocol.now (Events crashes c.args.start.now c.args.events.now) c.args.line c.args.text.now refl c.if-begins_event.kind kind
    c.in-Some.cut.bytes.now c.in-Some.cut.rest.now c.in-Some.ensures.some
    (no_goal_stands c.args.protocol.now crashes c.args.start.now c.args.events.now c.args.text.now c.in-Some.cut.bytes.now c.in-Some.cut.rest.now
    c.in-Some.ensures.some c.requires.end (rw (c.in_default-2.is, c.processes.ensures) at c.in_ok-goal.ensures.none))

pub returns-clause-ok : goal.returns-clause-ok
returns-clause-ok c = λ crashes.
    goes_on c.args.protocol.now (Events crashes c.args.start.now c.args.events.now) c.args.line c.args.text.now c.in-Some.cut.bytes.now c.in-Some.cut.rest.now
    (behind_goal crashes c.args.start.now c.args.events.now c.in-Some-2.goal c.in-Some-2.places) c.in-Some.ensures.some
    (inr (c.in-Some-2.goal, c.in-Some-2.places, rw (c.in-Some-2.is, c.processes.ensures) at c.in_ok-goal.ensures.found, refl))
