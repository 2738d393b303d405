use Rattle.std.proofs.Common.{refl, [], ◌∷◌, ◌++◌, inl}
use Rattle.std.proofs.lemmas.Bool.{cond-true}
use Rattle.trace_text.specs.Place.{Events, begins_event}
use Rattle.trace_text.proofs.Steps.{goes_on, no_line, bad_line}
use Rattle.trace_text.proofs.Stuck.{no_event_stands}
use Rattle.trace_text.proofs.reader.read_event.Goals as goal

pub returns-in_default-clause-err : goal.returns-in_default-clause-err
returns-in_default-clause-err c = λ crashes.
    no_line c.args.protocol.now (Events crashes c.args.start.now c.args.events.now) c.args.line c.args.text.now refl 4
    (cond-true (begins_event c.args.text.now) 4 5 c.requires.begins) c.in_default.ensures.none

pub returns-in_default-2-clause-err : goal.returns-in_default-2-clause-err
returns-in_default-2-clause-err c = λ crashes.
    bad_line c.args.protocol.now (Events crashes c.args.start.now c.args.events.now) c.args.line c.args.text.now refl 4
    (cond-true (begins_event c.args.text.now) 4 5 c.requires.begins) c.in-Some.cut.bytes.now c.in-Some.cut.rest.now c.in-Some.ensures.some
    (no_event_stands c.args.protocol.now crashes c.args.start.now c.args.events.now c.args.text.now c.in-Some.cut.bytes.now c.in-Some.cut.rest.now
    c.in-Some.ensures.some c.requires.begins (rw (c.in_default-2.is, c.processes.ensures) at c.in_ok-event.ensures.none))

pub returns-clause-ok : goal.returns-clause-ok
returns-clause-ok c = λ crashes.
    goes_on c.args.protocol.now (Events crashes c.args.start.now c.args.events.now) c.args.line c.args.text.now c.in-Some.cut.bytes.now c.in-Some.cut.rest.now
    (Events crashes c.args.start.now (c.args.events.now ++ c.in-Some-2.event ∷ [])) c.in-Some.ensures.some
    (inl (c.in-Some-2.event, rw (c.in-Some-2.is, c.processes.ensures) at c.in_ok-event.ensures.found, c.requires.more, refl))
