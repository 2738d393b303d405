use Rattle.std.proofs.Common.{Ok, [], None}
use Rattle.std.proofs.lemmas.Result.{err_from_is_err_and}
use Rattle.log_form.specs.Log.{no_log}
use Rattle.journal_text.specs.Place.{Heading, Version, BudgetLine, Adding}
use Rattle.journal_text.proofs.Steps.{fault_from}
use Rattle.journal_text.proofs.TextLaws.{read_whole}
use Rattle.journal_text.proofs.reader.read.Goals as goal

pub returns-in_err-full-clause-fault : goal.returns-in_err-full-clause-fault
returns-in_err-full-clause-fault g c =
    let e = err_from_is_err_and c.from_residual.result c.from_residual.ensures.1 in
    rw (e.1, e.2) (c.in_err-full.ensures.err c.args.protocol.now)

pub returns-in_err-rest-clause-fault : goal.returns-in_err-rest-clause-fault
returns-in_err-rest-clause-fault g c =
    let e = err_from_is_err_and c.from_residual-in_err-rest.result c.from_residual-in_err-rest.ensures.1 in
    let P = g.M.PreImages.pieces in
    let p = c.args.protocol.now in
    let full = c.in_ok-full.full in
    rw (e.1, e.2) (fault_from P p (Version full) 2 c.in_ok-full.rest.now Heading 1 c.args.text.now c.in_err-rest.field-0.0 (c.in_ok-full.ensures.ok p) (c.in_err-rest.ensures.err p full))

pub returns-in_err-budget-clause-fault : goal.returns-in_err-budget-clause-fault
returns-in_err-budget-clause-fault g c =
    let e = err_from_is_err_and c.from_residual-in_err-budget.result c.from_residual-in_err-budget.ensures.1 in
    let P = g.M.PreImages.pieces in
    let p = c.args.protocol.now in
    let full = c.in_ok-full.full in
    rw (e.1, e.2) (fault_from P p (BudgetLine full) 3 c.in_ok-rest.rest.now Heading 1 c.args.text.now c.in_err-budget.field-0.0
    (λ o r. c.in_ok-full.ensures.ok p o (c.in_ok-rest.ensures.ok p full o r)) (c.in_err-budget.ensures.err p full))

pub returns-in_err-log-clause-fault : goal.returns-in_err-log-clause-fault
returns-in_err-log-clause-fault g c =
    let e = err_from_is_err_and c.from_residual-in_err-log.result c.from_residual-in_err-log.ensures.1 in
    let P = g.M.PreImages.pieces in
    let p = c.args.protocol.now in
    let full = c.in_ok-full.full in
    rw (e.1, e.2) (fault_from P p (Adding full (no_log p c.in_ok-budget.budget) None []) 4 c.in_ok-budget.rest.now Heading 1 c.args.text.now c.in_err-log.field-0.0
    (λ o r. c.in_ok-full.ensures.ok p o (c.in_ok-rest.ensures.ok p full o (c.in_ok-budget.ensures.ok p full o r))) c.in_err-log.ensures.err)

pub returns-clause-log : goal.returns-clause-log
returns-clause-log g c =
    let p = c.args.protocol.now in
    let full = c.in_ok-full.full in
    let o = Ok c.in_ok-log.log in
    c.in_ok-full.ensures.ok p o (c.in_ok-rest.ensures.ok p full o (c.in_ok-budget.ensures.ok p full o c.in_ok-log.ensures.ok))

pub returns-clause-unknown : goal.returns-clause-unknown
returns-clause-unknown g c = (read_whole g.M.PreImages.pieces c.args.protocol.now 1 c.args.text.now c.in_ok-log.log (returns-clause-log g c)).0.unknown

pub returns-clause-text : goal.returns-clause-text
returns-clause-text g c = (read_whole g.M.PreImages.pieces c.args.protocol.now 1 c.args.text.now c.in_ok-log.log (returns-clause-log g c)).1

pub returns-clause-protocol : goal.returns-clause-protocol
returns-clause-protocol g c = (read_whole g.M.PreImages.pieces c.args.protocol.now 1 c.args.text.now c.in_ok-log.log (returns-clause-log g c)).0.of_p
