use Rattle.std.proofs.Common.{[], Ok}
use Rattle.std.proofs.lemmas.Result.{err_from_is_err_and}
use Rattle.cert_text.specs.Place.{Heading, Version, Count, Done, behind_cubes, at_tail, certificate_of, GoesOn}
use Rattle.cert_text.proofs.Steps.{fault_from}
use Rattle.cert_text.proofs.PlaceLaws.{is_its_text}
use Rattle.cert_text.proofs.reader.read.Goals as goal

pub returns-in_err-rest-clause-fault : goal.returns-in_err-rest-clause-fault
returns-in_err-rest-clause-fault c =
    let e = err_from_is_err_and c.from_residual.result c.from_residual.ensures.1 in
    let p = c.args.protocol.now in
    rw (e.1, e.2) (c.in_err-rest.ensures.err p)

pub returns-in_err-two-clause-fault : goal.returns-in_err-two-clause-fault
returns-in_err-two-clause-fault c =
    let e = err_from_is_err_and c.from_residual-in_err-two.result c.from_residual-in_err-two.ensures.1 in
    let p = c.args.protocol.now in
    let goes : GoesOn p Version 2 c.in_ok-rest.rest.now Heading 1 c.args.text.now = λ o r. c.in_ok-rest.ensures.ok p o (r) in
    rw (e.1, e.2) (fault_from p Version 2 c.in_ok-rest.rest.now Heading 1 c.args.text.now c.in_err-two.field-0.0 goes (c.in_err-two.ensures.err p))

pub returns-in_err-wanted-clause-fault : goal.returns-in_err-wanted-clause-fault
returns-in_err-wanted-clause-fault c =
    let e = err_from_is_err_and c.from_residual-in_err-wanted.result c.from_residual-in_err-wanted.ensures.1 in
    let p = c.args.protocol.now in
    let two = c.in_ok-two.two in
    let goes : GoesOn p (Count two) 3 c.in_ok-two.rest.now Heading 1 c.args.text.now = λ o r. c.in_ok-rest.ensures.ok p o (c.in_ok-two.ensures.ok p o (r)) in
    rw (e.1, e.2) (fault_from p (Count two) 3 c.in_ok-two.rest.now Heading 1 c.args.text.now c.in_err-wanted.field-0.0 goes (c.in_err-wanted.ensures.err p two))

pub returns-in_err-cubes-clause-fault : goal.returns-in_err-cubes-clause-fault
returns-in_err-cubes-clause-fault c =
    let e = err_from_is_err_and c.from_residual-in_err-cubes.result c.from_residual-in_err-cubes.ensures.1 in
    let p = c.args.protocol.now in
    let two = c.in_ok-two.two in
    let goes : GoesOn p (behind_cubes two c.in_ok-wanted.wanted []) 4 c.in_ok-wanted.rest.now Heading 1 c.args.text.now = λ o r. c.in_ok-rest.ensures.ok p o (c.in_ok-two.ensures.ok p o (c.in_ok-wanted.ensures.ok p two o (r))) in
    rw (e.1, e.2) (fault_from p (behind_cubes two c.in_ok-wanted.wanted []) 4 c.in_ok-wanted.rest.now Heading 1 c.args.text.now c.in_err-cubes.field-0.0 goes (c.in_err-cubes.ensures.err two))

pub returns-in_err-lines-clause-fault : goal.returns-in_err-lines-clause-fault
returns-in_err-lines-clause-fault c =
    let e = err_from_is_err_and c.from_residual-in_err-lines.result c.from_residual-in_err-lines.ensures.1 in
    let p = c.args.protocol.now in
    let two = c.in_ok-two.two in
    let cubes = c.in_ok-cubes.cubes in
    let goes : GoesOn p (at_tail two cubes) c.in_ok-cubes.line c.in_ok-cubes.rest.now Heading 1 c.args.text.now = λ o r. c.in_ok-rest.ensures.ok p o (c.in_ok-two.ensures.ok p o (c.in_ok-wanted.ensures.ok p two o (c.in_ok-cubes.ensures.ok two o (r)))) in
    rw (e.1, e.2) (fault_from p (at_tail two cubes) c.in_ok-cubes.line c.in_ok-cubes.rest.now Heading 1 c.args.text.now c.in_err-lines.field-0.0 goes ((rw c.as_slice.ensures at c.in_err-lines.ensures.err)))

pub returns-in_err-read_nothing-clause-fault : goal.returns-in_err-read_nothing-clause-fault
returns-in_err-read_nothing-clause-fault c =
    let e = err_from_is_err_and c.from_residual-in_err-read_nothing.result c.from_residual-in_err-read_nothing.ensures.1 in
    let p = c.args.protocol.now in
    let two = c.in_ok-two.two in
    let cubes = c.in_ok-cubes.cubes in
    let t = certificate_of cubes c.in_ok-lines.lines in
    let goes : GoesOn p (Done t) c.in_ok-lines.line c.in_ok-lines.rest.now Heading 1 c.args.text.now = λ o r. c.in_ok-rest.ensures.ok p o (c.in_ok-two.ensures.ok p o (c.in_ok-wanted.ensures.ok p two o (c.in_ok-cubes.ensures.ok two o ((rw c.as_slice.ensures at c.in_ok-lines.ensures.ok) o (r))))) in
    rw (e.1, e.2) (fault_from p (Done t) c.in_ok-lines.line c.in_ok-lines.rest.now Heading 1 c.args.text.now c.in_err-read_nothing.field-0.0 goes (c.in_err-read_nothing.ensures.err p t))

pub returns-clause-certificate : goal.returns-clause-certificate
returns-clause-certificate c =
    let p = c.args.protocol.now in
    let two = c.in_ok-two.two in
    let cubes = c.in_ok-cubes.cubes in
    let t = certificate_of cubes c.in_ok-lines.lines in
    let goes : GoesOn p (Done t) c.in_ok-lines.line c.in_ok-lines.rest.now Heading 1 c.args.text.now = λ o r. c.in_ok-rest.ensures.ok p o (c.in_ok-two.ensures.ok p o (c.in_ok-wanted.ensures.ok p two o (c.in_ok-cubes.ensures.ok two o ((rw c.as_slice.ensures at c.in_ok-lines.ensures.ok) o (r))))) in
    goes (Ok t) (c.in_ok-read_nothing.ensures.ok p t)

pub returns-clause-text : goal.returns-clause-text
returns-clause-text c =
    let p = c.args.protocol.now in
    let two = c.in_ok-two.two in
    let cubes = c.in_ok-cubes.cubes in
    let t = certificate_of cubes c.in_ok-lines.lines in
    let goes : GoesOn p (Done t) c.in_ok-lines.line c.in_ok-lines.rest.now Heading 1 c.args.text.now = λ o r. c.in_ok-rest.ensures.ok p o (c.in_ok-two.ensures.ok p o (c.in_ok-wanted.ensures.ok p two o (c.in_ok-cubes.ensures.ok two o ((rw c.as_slice.ensures at c.in_ok-lines.ensures.ok) o (r))))) in
    is_its_text p 1 c.args.text.now t (goes (Ok t) (c.in_ok-read_nothing.ensures.ok p t))
