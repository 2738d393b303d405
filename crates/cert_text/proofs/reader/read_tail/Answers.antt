use Rattle.std.proofs.Common.{◌+◌, [], Some}
use Rattle.std.proofs.lemmas.Result.{err_from_is_err_and}
use Rattle.cert_text.specs.Place.{Covers, Done, certificate_of}
use Rattle.cert_text.proofs.Steps.{fault_from, goes_through}
use Rattle.cert_text.proofs.reader.read_tail.Goals as goal

pub returns-in_err-rest-clause-err : goal.returns-in_err-rest-clause-err
returns-in_err-rest-clause-err c =
    let e = err_from_is_err_and c.from_residual.result c.from_residual.ensures.1 in
    rw (e.1, e.2, c.if-not-two.true) (c.in_err-rest.ensures.err c.args.cubes.now)

pub returns-then-not-two-clause-ok : goal.returns-then-not-two-clause-ok
returns-then-not-two-clause-ok c = rw c.if-not-two.true (c.in_ok-rest.ensures.ok c.args.cubes.now)

pub returns-in_err-rest-2-clause-err : goal.returns-in_err-rest-2-clause-err
returns-in_err-rest-2-clause-err c =
    let e = err_from_is_err_and c.from_residual-in_err-rest-2.result c.from_residual-in_err-rest-2.ensures.1 in
    let p = c.args.protocol.now in
    let cubes = c.args.cubes.now in
    rw (e.1, e.2, c.if-not-two.false)
    (fault_from p (Covers cubes c.in_ok-lines.lines) c.in_ok-lines.at c.in_ok-lines.rest.now (Covers cubes []) c.args.line c.args.text.now c.in_err-rest-2.field-0.0
    c.in_ok-lines.ensures.ok (c.in_err-rest-2.ensures.err p cubes c.in_ok-lines.lines))

pub returns-clause-ok : goal.returns-clause-ok
returns-clause-ok c =
    let p = c.args.protocol.now in
    let cubes = c.args.cubes.now in
    rw c.if-not-two.false
    (goes_through p (Done (certificate_of cubes (Some c.in_ok-lines.lines))) (c.in_ok-lines.at + 1) c.in_ok-rest-2.rest.now (Covers cubes c.in_ok-lines.lines)
    c.in_ok-lines.at c.in_ok-lines.rest.now (Covers cubes []) c.args.line c.args.text.now (c.in_ok-rest-2.ensures.ok p cubes c.in_ok-lines.lines) c.in_ok-lines.ensures.ok)
