use Rattle.std.proofs.Common.{◌+◌, [], Ok}
use Rattle.std.proofs.lemmas.Result.{err_from_is_err_and}
use Rattle.trace_text.specs.Place.{Heading, Version, Count, Events, Closing, Done, behind_globals, behind_goal, trace_of, GoesOn}
use Rattle.trace_text.proofs.Steps.{fault_from}
use Rattle.trace_text.proofs.PlaceLaws.{is_its_text}
use Rattle.trace_text.proofs.reader.read.Goals as goal

pub returns-in_err-crashes-clause-fault : goal.returns-in_err-crashes-clause-fault
returns-in_err-crashes-clause-fault c =
    let e = err_from_is_err_and c.from_residual.result c.from_residual.ensures.1 in
    let p = c.args.protocol.now in
    rw (e.1, e.2) (c.in_err-crashes.ensures.err p)

pub returns-in_err-rest-clause-fault : goal.returns-in_err-rest-clause-fault
returns-in_err-rest-clause-fault c =
    let e = err_from_is_err_and c.from_residual-in_err-rest.result c.from_residual-in_err-rest.ensures.1 in
    let p = c.args.protocol.now in
    let cr = c.in_ok-crashes.crashes in
    let goes : GoesOn p (Version cr) 2 c.in_ok-crashes.rest.now Heading 1 c.args.text.now = λ o r. c.in_ok-crashes.ensures.ok p o (r) in
    rw (e.1, e.2) (fault_from p (Version cr) 2 c.in_ok-crashes.rest.now Heading 1 c.args.text.now c.in_err-rest.field-0.0 goes (c.in_err-rest.ensures.err cr))

pub returns-in_err-processes-clause-fault : goal.returns-in_err-processes-clause-fault
returns-in_err-processes-clause-fault c =
    let e = err_from_is_err_and c.from_residual-in_err-processes.result c.from_residual-in_err-processes.ensures.1 in
    let p = c.args.protocol.now in
    let cr = c.in_ok-crashes.crashes in
    let goes : GoesOn p (Count cr) 3 c.in_ok-rest.rest.now Heading 1 c.args.text.now = λ o r. c.in_ok-crashes.ensures.ok p o (c.in_ok-rest.ensures.ok cr o (r)) in
    rw (e.1, e.2) (fault_from p (Count cr) 3 c.in_ok-rest.rest.now Heading 1 c.args.text.now c.in_err-processes.field-0.0 goes (c.in_err-processes.ensures.err p cr))

pub returns-in_err-start-clause-fault : goal.returns-in_err-start-clause-fault
returns-in_err-start-clause-fault c =
    let e = err_from_is_err_and c.from_residual-in_err-start.result c.from_residual-in_err-start.ensures.1 in
    let p = c.args.protocol.now in
    let cr = c.in_ok-crashes.crashes in
    let goes : GoesOn p (behind_globals p cr c.in_ok-processes.processes []) 4 c.in_ok-processes.rest.now Heading 1 c.args.text.now = λ o r. c.in_ok-crashes.ensures.ok p o (c.in_ok-rest.ensures.ok cr o (c.in_ok-processes.ensures.ok p cr o (r))) in
    rw (e.1, e.2) (fault_from p (behind_globals p cr c.in_ok-processes.processes []) 4 c.in_ok-processes.rest.now Heading 1 c.args.text.now c.in_err-start.field-0.0 goes (c.in_err-start.ensures.err cr))

pub returns-in_err-events-clause-fault : goal.returns-in_err-events-clause-fault
returns-in_err-events-clause-fault c =
    let e = err_from_is_err_and c.from_residual-in_err-events.result c.from_residual-in_err-events.ensures.1 in
    let p = c.args.protocol.now in
    let cr = c.in_ok-crashes.crashes in
    let goes : GoesOn p (Events cr c.in_ok-start.start []) c.in_ok-start.line c.in_ok-start.rest.now Heading 1 c.args.text.now = λ o r. c.in_ok-crashes.ensures.ok p o (c.in_ok-rest.ensures.ok cr o (c.in_ok-processes.ensures.ok p cr o (c.in_ok-start.ensures.ok cr o (r)))) in
    rw (e.1, e.2) (fault_from p (Events cr c.in_ok-start.start []) c.in_ok-start.line c.in_ok-start.rest.now Heading 1 c.args.text.now c.in_err-events.field-0.0 goes (c.in_err-events.ensures.err cr))

pub returns-in_err-goal-clause-fault : goal.returns-in_err-goal-clause-fault
returns-in_err-goal-clause-fault c =
    let e = err_from_is_err_and c.from_residual-in_err-goal.result c.from_residual-in_err-goal.ensures.1 in
    let p = c.args.protocol.now in
    let cr = c.in_ok-crashes.crashes in
    let goes : GoesOn p (Events cr c.in_ok-start.start c.in_ok-events.events) c.in_ok-events.line c.in_ok-events.rest.now Heading 1 c.args.text.now = λ o r. c.in_ok-crashes.ensures.ok p o (c.in_ok-rest.ensures.ok cr o (c.in_ok-processes.ensures.ok p cr o (c.in_ok-start.ensures.ok cr o (c.in_ok-events.ensures.ok cr o (r))))) in
    rw (e.1, e.2) (fault_from p (Events cr c.in_ok-start.start c.in_ok-events.events) c.in_ok-events.line c.in_ok-events.rest.now Heading 1 c.args.text.now c.in_err-goal.field-0.0 goes (c.in_err-goal.ensures.err cr))

pub returns-in_err-plain-clause-fault : goal.returns-in_err-plain-clause-fault
returns-in_err-plain-clause-fault c =
    let e = err_from_is_err_and c.from_residual-in_err-plain.result c.from_residual-in_err-plain.ensures.1 in
    let p = c.args.protocol.now in
    let cr = c.in_ok-crashes.crashes in
    let goes : GoesOn p (behind_goal cr c.in_ok-start.start c.in_ok-events.events c.in_ok-goal.goal c.in_ok-goal.places) (c.in_ok-events.line + 1) c.in_ok-goal.rest.now Heading 1 c.args.text.now = λ o r. c.in_ok-crashes.ensures.ok p o (c.in_ok-rest.ensures.ok cr o (c.in_ok-processes.ensures.ok p cr o (c.in_ok-start.ensures.ok cr o (c.in_ok-events.ensures.ok cr o (c.in_ok-goal.ensures.ok cr o (r)))))) in
    rw (e.1, e.2) (fault_from p (behind_goal cr c.in_ok-start.start c.in_ok-events.events c.in_ok-goal.goal c.in_ok-goal.places) (c.in_ok-events.line + 1) c.in_ok-goal.rest.now Heading 1 c.args.text.now c.in_err-plain.field-0.0 goes (c.in_err-plain.ensures.err p))

pub returns-in_err-rest-2-clause-fault : goal.returns-in_err-rest-2-clause-fault
returns-in_err-rest-2-clause-fault c =
    let e = err_from_is_err_and c.from_residual-in_err-rest-2.result c.from_residual-in_err-rest-2.ensures.1 in
    let p = c.args.protocol.now in
    let cr = c.in_ok-crashes.crashes in
    let t = trace_of c.in_ok-start.start c.in_ok-events.events c.in_ok-goal.goal c.in_ok-goal.places c.in_ok-plain.plain in
    let goes : GoesOn p (Closing t) c.in_ok-plain.line c.in_ok-plain.rest.now Heading 1 c.args.text.now = λ o r. c.in_ok-crashes.ensures.ok p o (c.in_ok-rest.ensures.ok cr o (c.in_ok-processes.ensures.ok p cr o (c.in_ok-start.ensures.ok cr o (c.in_ok-events.ensures.ok cr o (c.in_ok-goal.ensures.ok cr o (c.in_ok-plain.ensures.ok p o (r))))))) in
    rw (e.1, e.2) (fault_from p (Closing t) c.in_ok-plain.line c.in_ok-plain.rest.now Heading 1 c.args.text.now c.in_err-rest-2.field-0.0 goes (c.in_err-rest-2.ensures.err p t))

pub returns-in_err-read_nothing-clause-fault : goal.returns-in_err-read_nothing-clause-fault
returns-in_err-read_nothing-clause-fault c =
    let e = err_from_is_err_and c.from_residual-in_err-read_nothing.result c.from_residual-in_err-read_nothing.ensures.1 in
    let p = c.args.protocol.now in
    let cr = c.in_ok-crashes.crashes in
    let t = trace_of c.in_ok-start.start c.in_ok-events.events c.in_ok-goal.goal c.in_ok-goal.places c.in_ok-plain.plain in
    let goes : GoesOn p (Done t) (c.in_ok-plain.line + 1) c.in_ok-rest-2.rest.now Heading 1 c.args.text.now = λ o r. c.in_ok-crashes.ensures.ok p o (c.in_ok-rest.ensures.ok cr o (c.in_ok-processes.ensures.ok p cr o (c.in_ok-start.ensures.ok cr o (c.in_ok-events.ensures.ok cr o (c.in_ok-goal.ensures.ok cr o (c.in_ok-plain.ensures.ok p o (c.in_ok-rest-2.ensures.ok p t o (r)))))))) in
    rw (e.1, e.2) (fault_from p (Done t) (c.in_ok-plain.line + 1) c.in_ok-rest-2.rest.now Heading 1 c.args.text.now c.in_err-read_nothing.field-0.0 goes (c.in_err-read_nothing.ensures.err p t))

pub returns-clause-trace : goal.returns-clause-trace
returns-clause-trace c =
    let p = c.args.protocol.now in
    let cr = c.in_ok-crashes.crashes in
    let t = trace_of c.in_ok-start.start c.in_ok-events.events c.in_ok-goal.goal c.in_ok-goal.places c.in_ok-plain.plain in
    let goes : GoesOn p (Done t) (c.in_ok-plain.line + 1) c.in_ok-rest-2.rest.now Heading 1 c.args.text.now = λ o r. c.in_ok-crashes.ensures.ok p o (c.in_ok-rest.ensures.ok cr o (c.in_ok-processes.ensures.ok p cr o (c.in_ok-start.ensures.ok cr o (c.in_ok-events.ensures.ok cr o (c.in_ok-goal.ensures.ok cr o (c.in_ok-plain.ensures.ok p o (c.in_ok-rest-2.ensures.ok p t o (r)))))))) in
    goes (Ok t) (c.in_ok-read_nothing.ensures.ok p t)

pub returns-clause-text : goal.returns-clause-text
returns-clause-text c =
    let p = c.args.protocol.now in
    let cr = c.in_ok-crashes.crashes in
    let t = trace_of c.in_ok-start.start c.in_ok-events.events c.in_ok-goal.goal c.in_ok-goal.places c.in_ok-plain.plain in
    let goes : GoesOn p (Done t) (c.in_ok-plain.line + 1) c.in_ok-rest-2.rest.now Heading 1 c.args.text.now = λ o r. c.in_ok-crashes.ensures.ok p o (c.in_ok-rest.ensures.ok cr o (c.in_ok-processes.ensures.ok p cr o (c.in_ok-start.ensures.ok cr o (c.in_ok-events.ensures.ok cr o (c.in_ok-goal.ensures.ok cr o (c.in_ok-plain.ensures.ok p o (c.in_ok-rest-2.ensures.ok p t o (r)))))))) in
    is_its_text p 1 c.args.text.now t (goes (Ok t) (c.in_ok-read_nothing.ensures.ok p t))
