use Rattle.std.proofs.Common.{◌+◌, [], ◌∷◌, ◌++◌, arith, IsTrue}
use Rattle.std.proofs.lemmas.Result.{err_from_is_err_and}
use Rattle.std.proofs.lemmas.List.{length_push}
use Rattle.std.proofs.lemmas.List.Elements.{All-push}
use Rattle.cub_proto.specs.Configuration.{process_count}
use Rattle.trace_text.specs.Lawful.{is_lawful_event}
use Rattle.trace_text.specs.Place.{Events}
use Rattle.trace_text.proofs.Steps.{fault_from, goes_through}
use Rattle.trace_text.proofs.reader.read_events.Goals as goal

pub returns-in_err-event-clause-err : goal.returns-in_err-event-clause-err
returns-in_err-event-clause-err c =
    let p = err_from_is_err_and c.from_residual.result c.from_residual.ensures.1 in
    rw (p.1, p.2) (λ crashes.
    fault_from c.args.protocol.now (Events crashes c.args.start.now c.loop.events) c.loop.at c.loop.rest.now (Events crashes c.args.start.now []) c.args.line
    c.args.text.now c.in_err-event.field-0.0 (c.loop.invariant.goes crashes) (c.in_err-event.ensures.err crashes))

pub loop-preserved : goal.loop-preserved
loop-preserved c =
    let counts = c.loop.invariant.counts in
    let longer = length_push c.loop.events c.in_ok-event.event in
    let shorter = c.in_ok-event.ensures.room in
    let room = c.loop.invariant.room in
    rw c.in_ok-push.ensures.ok (record {
      lawful = All-push (λ e. IsTrue (is_lawful_event c.args.protocol.now (process_count c.args.start.now) e)) c.loop.events c.in_ok-event.event c.loop.invariant.lawful
          c.in_ok-event.ensures.lawful;
      counts = omega arith;
      room = omega arith;
      goes = λ crashes.
          goes_through c.args.protocol.now (Events crashes c.args.start.now (c.loop.events ++ c.in_ok-event.event ∷ [])) (c.loop.at + 1) c.in_ok-event.behind.now
          (Events crashes c.args.start.now c.loop.events) c.loop.at c.loop.rest.now (Events crashes c.args.start.now []) c.args.line c.args.text.now
          (c.in_ok-event.ensures.ok crashes) (c.loop.invariant.goes crashes);
    })
