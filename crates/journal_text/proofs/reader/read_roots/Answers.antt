use Rattle.std.proofs.Common.{◌≡◌, ℕ, Option, ◌-◌, [], None, length, sym, subst, arith}
use Rattle.std.proofs.lemmas.Result.{err_from_is_err_and}
use Rattle.log_form.specs.Log.{no_log}
use Rattle.cube_core.specs.Admits.{NamesFault}
use Rattle.cube_core.specs.declared.fault.AdmitFault.{AdmitFault}
use Rattle.journal_text.specs.Place.{Adding}
use Rattle.journal_text.specs.Form.{look_of}
use Rattle.journal_text.specs.Ready.{IsReady}
use Rattle.journal_text.proofs.ItemLaws.{lines_readable}
use Rattle.journal_text.proofs.ReadyLaws.{no_memory, roots_ready, roots_unfit, roots_none, counted_early, counted_late}
use Rattle.journal_text.proofs.reader.read_roots.Goals as goal

-- want of memory among the lines
pub returns-in_err-items-clause-err : goal.returns-in_err-items-clause-err
returns-in_err-items-clause-err g c =
    let e = err_from_is_err_and c.from_residual.result c.from_residual.ensures.1 in
    let p = c.args.protocol.now in
    rw (e.1, e.2) (λ full no_roots. no_memory g.M.PreImages.pieces p (Adding full (no_log p c.args.budget) None []) 4 c.args.text.now c.in_err-items.field-0.0 c.in_err-items.ensures.err)

-- the cubes may be read
pub admit_roots-requires-clause-readable : goal.admit_roots-requires-clause-readable
admit_roots-requires-clause-readable g c =
    lines_readable c.args.protocol.now None c.in_ok-items.items c.args.text.now c.in_ok-items.rest.now c.in_ok-items.ensures.lines

-- the log
pub returns-in-Ok-clause-ok : goal.returns-in-Ok-clause-ok
returns-in-Ok-clause-ok g c = λ full no_roots.
    let p = c.args.protocol.now in
    let items = c.in_ok-items.items in
    subst (λ (n : ℕ). IsReady g.M.PreImages.pieces p (Adding full (no_log p c.args.budget) None []) 4 c.args.text.now full None c.in-Ok.log n c.in_ok-items.rest.now)
    (sym c.in_ok-items.ensures.count)
    (roots_ready g.M.PreImages.pieces p c.args.budget full c.args.text.now no_roots items c.in_ok-items.rest.now c.in_ok-items.ensures.lines c.in_ok-items.ensures.no_item c.in-Ok.log c.in-Ok.ensures.legal)

-- no list of the roots
pub returns-in-Err-Not-None-clause-err : goal.returns-in-Err-Not-None-clause-err
returns-in-Err-Not-None-clause-err g c = λ full no_roots.
    let p = c.args.protocol.now in
    let items = c.in_ok-items.items in
    let count : c.in_ok-items.line - 4 ≡ length items = let is = c.in_ok-items.ensures.count in omega (arith, is) in
    let fault = subst (λ (o : Option ℕ). NamesFault g.M.PreImages.pieces (no_log p c.args.budget) (record { node = None; added = items; needed = 0 }) (AdmitFault.Not o)) c.in-Err-Not-None.field-0-0-is
    (subst (NamesFault g.M.PreImages.pieces (no_log p c.args.budget) (record { node = None; added = items; needed = 0 })) c.in-Err-Not-None.field-0-is c.in-Err-Not-None.ensures.fault) in
    roots_none g.M.PreImages.pieces p c.args.budget full c.args.text.now no_roots items c.in_ok-items.rest.now c.in_ok-items.ensures.lines c.in_ok-items.ensures.no_item fault.0 fault.1
    c.event_fault.result (counted_early (c.in_ok-items.line - 4) (length items) count 0 c.event_fault.result 4 c.event_fault.ensures.early)
    (counted_late (c.in_ok-items.line - 4) (length items) count None 0 c.event_fault.result 4 (look_of p None c.in_ok-items.rest.now) c.event_fault.ensures.late)

-- a cube that may not be added, or a piece that is lacking
pub returns-clause-err : goal.returns-clause-err
returns-clause-err g c = λ full no_roots.
    let p = c.args.protocol.now in
    let items = c.in_ok-items.items in
    let k = c.in-Err-Not-Some.added in
    let count : c.in_ok-items.line - 4 ≡ length items = let is = c.in_ok-items.ensures.count in omega (arith, is) in
    let fault = subst (λ (o : Option ℕ). NamesFault g.M.PreImages.pieces (no_log p c.args.budget) (record { node = None; added = items; needed = 0 }) (AdmitFault.Not o)) c.in-Err-Not-Some.field-0-0-is
    (subst (NamesFault g.M.PreImages.pieces (no_log p c.args.budget) (record { node = None; added = items; needed = 0 })) c.in-Err-Not-Some.field-0-is c.in-Err-Not-Some.ensures.fault) in
    roots_unfit g.M.PreImages.pieces p c.args.budget full c.args.text.now no_roots items c.in_ok-items.rest.now c.in_ok-items.ensures.lines c.in_ok-items.ensures.no_item g.M.PreImages.one_list k fault.0 fault.1
    c.event_fault-in-Err-Not-Some.result (counted_early (c.in_ok-items.line - 4) (length items) count k c.event_fault-in-Err-Not-Some.result 4 c.event_fault-in-Err-Not-Some.ensures.early)
    (counted_late (c.in_ok-items.line - 4) (length items) count None k c.event_fault-in-Err-Not-Some.result 4 (look_of p None c.in_ok-items.rest.now) c.event_fault-in-Err-Not-Some.ensures.late)
