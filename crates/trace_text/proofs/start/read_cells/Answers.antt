use Rattle.std.proofs.Common.{◌≡◌, ◌+◌, arith, ◌∙◌, ap, sym, subst}
use Rattle.std.proofs.lemmas.Result.{err_from_is_err_and}
use Rattle.cub_proto.specs.declared.state.Slot.TheVariants as Slot
use Rattle.cub_proto.specs.Configuration.{process_count, put}
use Rattle.trace_text.specs.Place.{Place, GoesOn}
use Rattle.trace_text.specs.Values.{at_arrays, at_cells}
use Rattle.trace_text.proofs.Steps.{fault_from, goes_through, behind_shorter}
use Rattle.trace_text.proofs.StartLaws.{cell_read, cell_refused, array_ends}
use Rattle.trace_text.proofs.start.read_cells.Goals as goal

pub returns-in_err-val-clause-err : goal.returns-in_err-val-clause-err
returns-in_err-val-clause-err c =
    let e = err_from_is_err_and c.from_residual.result c.from_residual.ensures.1 in
    let p = c.args.protocol.now in
    let s = c.loop-process.state in
    let n = process_count c.args.state.now in
    let inv = c.loop-process.invariant in
    let test = c.loop-process-test.true in
    let end = c.processes-process-end.ensures in
    rw (e.1, e.2) (λ crashes.
    fault_from p (at_cells p crashes n s c.args.array c.loop-process.process) c.loop-process.at c.loop-process.rest.now (at_arrays p crashes n c.args.state.now c.args.array)
    c.args.line c.args.text.now c.in_err-val.field-0.0 (inv.goes crashes)
    (cell_refused p s inv.fits crashes n c.args.array c.requires.array c.loop-process.process (omega arith) (sym inv.counts) c.loop-process.at c.loop-process.rest.now
    c.in_err-val.field-0.0 (rw (c.processes.ensures ∙ inv.counts) at c.in_err-val.ensures.err)))

pub loop-process-preserved : goal.loop-process-preserved
loop-process-preserved c =
    let p = c.args.protocol.now in
    let s = c.loop-process.state in
    let n = process_count c.args.state.now in
    let inv = c.loop-process.invariant in
    let test = c.loop-process-test.true in
    let end = c.processes-process-end.ensures in
    let taken = rw (c.processes.ensures ∙ inv.counts) at c.in_ok-val.ensures.ok in
    let shorter = behind_shorter c.loop-process.rest.now taken.0 c.in_ok-val.behind.now taken.1 in
    let room = inv.room in
    record {
      fits = c.set_start.ensures.fits;
      counts = ap process_count c.set_start.ensures.set ∙ inv.counts;
      room = omega arith;
      goes = λ crashes. rw c.set_start.ensures.set
          (goes_through p (at_cells p crashes n (put s (Slot.Cell c.args.array c.loop-process.process) c.in_ok-val.val) c.args.array (c.loop-process.process + 1))
          (c.loop-process.at + 1) c.in_ok-val.behind.now (at_cells p crashes n s c.args.array c.loop-process.process) c.loop-process.at c.loop-process.rest.now
          (at_arrays p crashes n c.args.state.now c.args.array) c.args.line c.args.text.now
          (cell_read p s inv.fits crashes n c.args.array c.requires.array c.loop-process.process (omega arith) (sym inv.counts) c.loop-process.at c.loop-process.rest.now
          c.in_ok-val.val c.in_ok-val.behind.now taken) (inv.goes crashes));
    }

pub returns-clause-ok : goal.returns-clause-ok
returns-clause-ok c = λ crashes.
    let p = c.args.protocol.now in
    let s = c.loop-process.state in
    let n = process_count c.args.state.now in
    let inv = c.loop-process.invariant in
    let test = c.loop-process-test.false in
    let within = c.loop-process.auto.process-end in
    let end = c.processes-process-end.ensures in
    let last : n ≡ c.loop-process.process = omega arith in
    let same : at_cells p crashes n s c.args.array c.loop-process.process ≡ at_arrays p crashes (process_count s) s (c.args.array + 1) =
    ap (at_cells p crashes n s c.args.array) (sym last) ∙ array_ends p s inv.fits crashes n c.args.array c.requires.array (sym inv.counts)
    ∙ ap (λ k. at_arrays p crashes k s (c.args.array + 1)) (sym inv.counts) in
    subst (λ (place : Place). GoesOn p place c.loop-process.at c.loop-process.rest.now (at_arrays p crashes n c.args.state.now c.args.array) c.args.line c.args.text.now) same
    (inv.goes crashes)
