use Rattle.std.proofs.Common.{refl, []}
use Rattle.trace_text.specs.Place.{Count, behind_globals}
use Rattle.trace_text.proofs.Steps.{goes_on, no_line, bad_line}
use Rattle.trace_text.proofs.reader.read_count.Goals as goal

pub returns-in_default-clause-err : goal.returns-in_default-clause-err
returns-in_default-clause-err c = λ p crashes. no_line p (Count crashes) 3 c.args.text.now refl 2 refl c.in_default.ensures.none

pub returns-in_default-2-clause-err : goal.returns-in_default-2-clause-err
returns-in_default-2-clause-err c = λ p crashes.
    bad_line p (Count crashes) 3 c.args.text.now refl 2 refl c.in-Some.cut.bytes.now c.in-Some.cut.rest.now c.in-Some.ensures.some
    (λ q t. (rw c.in_default-2.is at c.in_ok-processes.ensures.none) t.0 t.1)

pub returns-clause-ok : goal.returns-clause-ok
returns-clause-ok c = λ p crashes.
    goes_on p (Count crashes) 3 c.args.text.now c.in-Some.cut.bytes.now c.in-Some.cut.rest.now (behind_globals p crashes c.in-Some-2.processes []) c.in-Some.ensures.some
    (c.in-Some-2.processes, rw c.in-Some-2.is at c.in_ok-processes.ensures.found, refl)
