use Rattle.std.proofs.Common.{◌+◌, Ok, [], None}
use Rattle.std.proofs.lemmas.Result.{err_from_is_err_and}
use Rattle.log_form.specs.Log.{no_log}
use Rattle.journal_text.specs.Place.{Ending, Adding}
use Rattle.journal_text.proofs.Steps.{fault_from}
use Rattle.journal_text.proofs.ReadyLaws.{filled_goes}
use Rattle.journal_text.proofs.reader.read_events.Goals as goal

-- the roots fill the log
pub returns-in_err-read_end-clause-err : goal.returns-in_err-read_end-clause-err
returns-in_err-read_end-clause-err g c =
    let e = err_from_is_err_and c.from_residual-in_err-read_end.result c.from_residual-in_err-read_end.ensures.1 in
    let P = g.M.PreImages.pieces in
    let p = c.args.protocol.now in
    rw (e.1, e.2) (fault_from P p (Ending c.in-Some.log) 5 c.in-Some.rest.now (Adding c.args.full (no_log p c.args.budget) None []) 4 c.args.text.now c.in_err-read_end.field-0.0
    (filled_goes P p c.args.full c.args.budget c.args.text.now c.in-Some.log c.in-Some.rest.now (rw c.in-Some.is at c.in_ok-log.ensures.found)) (c.in_err-read_end.ensures.err p c.in-Some.log))

pub returns-in-Some-clause-ok : goal.returns-in-Some-clause-ok
returns-in-Some-clause-ok g c =
    let P = g.M.PreImages.pieces in
    let p = c.args.protocol.now in
    filled_goes P p c.args.full c.args.budget c.args.text.now c.in-Some.log c.in-Some.rest.now (rw c.in-Some.is at c.in_ok-log.ensures.found) (Ok c.in-Some.log)
    (c.in_ok-read_end.ensures.ok p c.in-Some.log)

-- the roots do not fill it
pub returns-in_err-log-2-clause-err : goal.returns-in_err-log-2-clause-err
returns-in_err-log-2-clause-err g c =
    let e = err_from_is_err_and c.from_residual-in_err-log-2.result c.from_residual-in_err-log-2.ensures.1 in
    rw (e.1, e.2) (c.in_err-log-2.ensures.err c.args.full (rw c.in_default.is at c.in_ok-log.ensures.none))

pub returns-in_err-node-clause-err : goal.returns-in_err-node-clause-err
returns-in_err-node-clause-err g c =
    let e = err_from_is_err_and c.from_residual-in_err-node.result c.from_residual-in_err-node.ensures.1 in
    let P = g.M.PreImages.pieces in
    let p = c.args.protocol.now in
    let full = c.args.full in
    let text = c.args.text.now in
    let place = Adding full (no_log p c.args.budget) None [] in
    let ready = c.in_ok-log-2.ensures.ok full (rw c.in_default.is at c.in_ok-log.ensures.none) in
    rw (e.1, e.2) (c.in_err-node.ensures.err place 4 text full ready)

pub returns-in_err-rest-clause-err : goal.returns-in_err-rest-clause-err
returns-in_err-rest-clause-err g c =
    let e = err_from_is_err_and c.from_residual-in_err-rest.result c.from_residual-in_err-rest.ensures.1 in
    let P = g.M.PreImages.pieces in
    let p = c.args.protocol.now in
    let full = c.args.full in
    let text = c.args.text.now in
    let place = Adding full (no_log p c.args.budget) None [] in
    let ready = c.in_ok-log-2.ensures.ok full (rw c.in_default.is at c.in_ok-log.ensures.none) in
    let later = c.in_ok-node.ensures.ok place 4 text full ready in
    rw (e.1, e.2) (c.in_err-rest.ensures.err place 4 text later)

pub returns-in_err-read_end-2-clause-err : goal.returns-in_err-read_end-2-clause-err
returns-in_err-read_end-2-clause-err g c =
    let e = err_from_is_err_and c.from_residual-in_err-read_end-2.result c.from_residual-in_err-read_end-2.ensures.1 in
    let P = g.M.PreImages.pieces in
    let p = c.args.protocol.now in
    let full = c.args.full in
    let text = c.args.text.now in
    let place = Adding full (no_log p c.args.budget) None [] in
    let ready = c.in_ok-log-2.ensures.ok full (rw c.in_default.is at c.in_ok-log.ensures.none) in
    let later = c.in_ok-node.ensures.ok place 4 text full ready in
    let goes = c.in_ok-rest.ensures.ok place 4 text later in
    rw (e.1, e.2) (fault_from P p (Ending c.read_closing.new.log) (c.in_ok-node.line + 1) c.in_ok-rest.rest.now place 4 text c.in_err-read_end-2.field-0.0 goes
    (c.in_err-read_end-2.ensures.err p c.read_closing.new.log))

pub returns-clause-ok : goal.returns-clause-ok
returns-clause-ok g c =
    let P = g.M.PreImages.pieces in
    let p = c.args.protocol.now in
    let full = c.args.full in
    let text = c.args.text.now in
    let place = Adding full (no_log p c.args.budget) None [] in
    let ready = c.in_ok-log-2.ensures.ok full (rw c.in_default.is at c.in_ok-log.ensures.none) in
    let later = c.in_ok-node.ensures.ok place 4 text full ready in
    let goes = c.in_ok-rest.ensures.ok place 4 text later in
    goes (Ok c.read_closing.new.log) (c.in_ok-read_end-2.ensures.ok p c.read_closing.new.log)
