use Rattle.std.proofs.Common.{refl, None, Some}
use Rattle.trace_text.specs.Place.{PlainLine, Closing, trace_of}
use Rattle.trace_text.proofs.Steps.{goes_on, no_line, bad_line}
use Rattle.trace_text.proofs.reader.read_plain.Goals as goal

pub returns-in_default-clause-err : goal.returns-in_default-clause-err
returns-in_default-clause-err c = λ p.
    no_line p (PlainLine (trace_of c.args.start.now c.args.events.now c.args.goal c.args.places.now None)) c.args.line c.args.text.now refl 5 refl c.in_default.ensures.none

pub returns-in_default-2-clause-err : goal.returns-in_default-2-clause-err
returns-in_default-2-clause-err c = λ p.
    bad_line p (PlainLine (trace_of c.args.start.now c.args.events.now c.args.goal c.args.places.now None)) c.args.line c.args.text.now refl 5 refl
    c.in-Some.cut.bytes.now c.in-Some.cut.rest.now c.in-Some.ensures.some
    (λ q t. (rw (c.in_default-2.is, c.processes.ensures, c.as_slice.ensures) at c.in_ok-plain.ensures.none) t.0 t.1)

pub returns-clause-ok : goal.returns-clause-ok
returns-clause-ok c = λ p.
    goes_on p (PlainLine (trace_of c.args.start.now c.args.events.now c.args.goal c.args.places.now None)) c.args.line c.args.text.now c.in-Some.cut.bytes.now
    c.in-Some.cut.rest.now (Closing (trace_of c.args.start.now c.args.events.now c.args.goal c.args.places.now (Some c.in-Some-2.plain))) c.in-Some.ensures.some
    (c.in-Some-2.plain, rw (c.in-Some-2.is, c.processes.ensures, c.as_slice.ensures) at c.in_ok-plain.ensures.found, refl)
