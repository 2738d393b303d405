use Rattle.journal_text.proofs.Apart.{node_number}
use Rattle.journal_text.proofs.ReadyLaws.{fault_at, ready_stops, closed_goes}
use Rattle.journal_text.proofs.closing.read_closing.Goals as goal

-- no closing line, and no expansion
pub returns-in_default-clause-err : goal.returns-in_default-clause-err
returns-in_default-clause-err g c = λ place n whole r.
    let P = g.M.PreImages.pieces in
    let p = c.args.protocol.now in
    let log = c.args.log.now in
    fault_at P p place n whole c.whole_fault.result c.args.line _ c.whole_fault.ensures
    (ready_stops P p place n whole c.args.full c.args.node log c.args.line c.args.text.now r
    (λ bytes behind m there t. c.requires.no_expand bytes behind m there (node_number P log m t.list r.makes.legal t.treats) t.text)
    ((rw c.in_default.is at c.in_ok-rest.ensures.none) r.makes.legal))

pub returns-clause-ok : goal.returns-clause-ok
returns-clause-ok g c = λ place n whole r.
    closed_goes g.M.PreImages.pieces c.args.protocol.now place n whole c.args.full c.args.node c.args.log.now c.args.line c.args.text.now c.closed.new.log c.in-Some.rest.now r
    ((rw c.in-Some.is at c.in_ok-rest.ensures.found) r.makes.legal)
