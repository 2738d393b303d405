use Rattle.std.proofs.Common.{◌≡◌, ℕ, Option, ◌+◌, ◌-◌, Some, length, sym, subst, arith}
use Rattle.cube_core.specs.Admits.{NamesFault}
use Rattle.cube_core.specs.declared.fault.AdmitFault.{AdmitFault}
use Rattle.journal_text.specs.Form.{look_of}
use Rattle.journal_text.specs.Ready.{IsReady}
use Rattle.journal_text.proofs.ItemLaws.{lines_readable}
use Rattle.journal_text.proofs.ReadyLaws.{fault_at, expand_ready, expand_refused, expand_unfit, counted_early, counted_late}
use Rattle.journal_text.proofs.reader.read_expansion.Goals as goal

pub admit-requires-clause-readable : goal.admit-requires-clause-readable
admit-requires-clause-readable g c =
    lines_readable c.args.protocol.now (Some c.in-Some.node) c.in_ok-items.items c.in-Some.behind.now c.in_ok-items.rest.now c.in_ok-items.ensures.lines

-- the node's event is legal
pub returns-in-Ok-clause-found : goal.returns-in-Ok-clause-found
returns-in-Ok-clause-found g c = λ place n whole full r.
    let p = c.args.protocol.now in
    let log = c.args.log.now in
    let node = c.in-Some.node in
    subst (λ (m : ℕ). IsReady g.M.PreImages.pieces p place n whole full (Some node) c.admit.new.self m c.in_ok-items.rest.now) (sym c.in_ok-items.ensures.count)
    (expand_ready g.M.PreImages.pieces p c.args.before log (sym c.requires.protocol) c.args.line c.args.text.now c.in-Some.behind.now c.in_ok-items.rest.now node (rw c.in-Some.is at c.in_ok-node.ensures.small) c.in_ok-items.items
    (rw c.in-Some.is at c.in_ok-node.ensures.found) c.in_ok-items.ensures.lines c.in_ok-items.ensures.no_item place n whole full r c.admit.new.self c.in-Ok.ensures.legal)

-- its mark or its node refuses it
pub returns-in-Err-Not-None-clause-err : goal.returns-in-Err-Not-None-clause-err
returns-in-Err-Not-None-clause-err g c = λ place n whole full r.
    let p = c.args.protocol.now in
    let log = c.args.log.now in
    let node = c.in-Some.node in
    let fault = subst (λ (o : Option ℕ). NamesFault g.M.PreImages.pieces log (record { node = Some node; added = c.in_ok-items.items; needed = 0 }) (AdmitFault.Not o)) c.in-Err-Not-None.field-0-0-is
    (subst (NamesFault g.M.PreImages.pieces log (record { node = Some node; added = c.in_ok-items.items; needed = 0 })) c.in-Err-Not-None.field-0-is c.in-Err-Not-None.ensures.fault) in
    fault_at g.M.PreImages.pieces p place n whole c.whole_fault.result c.args.line _ c.whole_fault.ensures
    (expand_refused g.M.PreImages.pieces p c.args.before log (sym c.requires.protocol) c.args.line c.args.text.now c.in-Some.behind.now c.in_ok-items.rest.now node (rw c.in-Some.is at c.in_ok-node.ensures.small) c.in_ok-items.items
    (rw c.in-Some.is at c.in_ok-node.ensures.found) c.in_ok-items.ensures.lines c.in_ok-items.ensures.no_item place n whole full r fault.1)

-- a cube may not be added, or a piece is lacking
pub returns-clause-err : goal.returns-clause-err
returns-clause-err g c = λ place n whole full r.
    let p = c.args.protocol.now in
    let log = c.args.log.now in
    let node = c.in-Some.node in
    let items = c.in_ok-items.items in
    let count : c.in_ok-items.at - (c.args.line + 1) ≡ length items = let is = c.in_ok-items.ensures.count in omega (arith, is) in
    let fault = subst (λ (o : Option ℕ). NamesFault g.M.PreImages.pieces log (record { node = Some node; added = items; needed = 0 }) (AdmitFault.Not o)) c.in-Err-Not-Some.field-0-0-is
    (subst (NamesFault g.M.PreImages.pieces log (record { node = Some node; added = items; needed = 0 })) c.in-Err-Not-Some.field-0-is c.in-Err-Not-Some.ensures.fault) in
    expand_unfit g.M.PreImages.pieces p c.args.before log (sym c.requires.protocol) c.args.line c.args.text.now c.in-Some.behind.now c.in_ok-items.rest.now node (rw c.in-Some.is at c.in_ok-node.ensures.small) items
    (rw c.in-Some.is at c.in_ok-node.ensures.found) c.in_ok-items.ensures.lines c.in_ok-items.ensures.no_item place n whole full r g.M.PreImages.one_list c.in-Err-Not-Some.added fault.0 fault.1
    c.event_fault.result
    (counted_early (c.in_ok-items.at - (c.args.line + 1)) (length items) count c.in-Err-Not-Some.added c.event_fault.result (c.args.line + 1) c.event_fault.ensures.early)
    (counted_late (c.in_ok-items.at - (c.args.line + 1)) (length items) count (Some node) c.in-Err-Not-Some.added c.event_fault.result (c.args.line + 1)
    (look_of p (Some node) c.in_ok-items.rest.now) c.event_fault.ensures.late)
