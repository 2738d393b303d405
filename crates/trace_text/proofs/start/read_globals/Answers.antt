use Rattle.std.proofs.Common.{◌≡◌, ◌+◌, length, arith, ◌∙◌, ap, sym, subst}
use Rattle.std.proofs.lemmas.Result.{err_from_is_err_and}
use Rattle.cub_proto.specs.declared.state.Slot.TheVariants as Slot
use Rattle.cub_proto.specs.Configuration.{process_count, put}
use Rattle.trace_text.specs.Place.{Place, GoesOn}
use Rattle.trace_text.specs.Values.{at_globals, at_arrays}
use Rattle.trace_text.proofs.Steps.{fault_from, goes_through, behind_shorter}
use Rattle.trace_text.proofs.StartLaws.{global_read, global_refused, globals_end}
use Rattle.trace_text.proofs.start.read_globals.Goals as goal

pub returns-in_err-val-clause-err : goal.returns-in_err-val-clause-err
returns-in_err-val-clause-err c =
    let e = err_from_is_err_and c.from_residual.result c.from_residual.ensures.1 in
    let p = c.args.protocol.now in
    let s = c.loop-global.state in
    let n = process_count c.args.state.now in
    let inv = c.loop-global.invariant in
    let test = c.loop-global-test.true in
    let end = c.len-global-end.ensures in
    rw (e.1, e.2) (λ crashes.
    fault_from p (at_globals p crashes n s c.loop-global.global) c.loop-global.at c.loop-global.rest.now (at_globals p crashes n c.args.state.now 0) c.args.line c.args.text.now
    c.in_err-val.field-0.0 (inv.goes crashes)
    (global_refused p s inv.fits crashes n c.loop-global.global (omega arith) c.loop-global.at c.loop-global.rest.now c.in_err-val.field-0.0
    (rw (c.processes.ensures ∙ inv.counts) at c.in_err-val.ensures.err)))

pub loop-global-preserved : goal.loop-global-preserved
loop-global-preserved c =
    let p = c.args.protocol.now in
    let s = c.loop-global.state in
    let n = process_count c.args.state.now in
    let inv = c.loop-global.invariant in
    let test = c.loop-global-test.true in
    let end = c.len-global-end.ensures in
    let taken = rw (c.processes.ensures ∙ inv.counts) at c.in_ok-val.ensures.ok in
    let shorter = behind_shorter c.loop-global.rest.now taken.0 c.in_ok-val.behind.now taken.1 in
    let room = inv.room in
    record {
      fits = c.set_start.ensures.fits;
      counts = ap process_count c.set_start.ensures.set ∙ inv.counts;
      room = omega arith;
      goes = λ crashes. rw c.set_start.ensures.set
          (goes_through p (at_globals p crashes n (put s (Slot.Global c.loop-global.global) c.in_ok-val.val) (c.loop-global.global + 1)) (c.loop-global.at + 1)
          c.in_ok-val.behind.now (at_globals p crashes n s c.loop-global.global) c.loop-global.at c.loop-global.rest.now (at_globals p crashes n c.args.state.now 0)
          c.args.line c.args.text.now
          (global_read p s inv.fits crashes n c.loop-global.global (omega arith) c.loop-global.at c.loop-global.rest.now c.in_ok-val.val c.in_ok-val.behind.now taken)
          (inv.goes crashes));
    }

pub returns-clause-ok : goal.returns-clause-ok
returns-clause-ok c = λ crashes.
    let p = c.args.protocol.now in
    let s = c.loop-global.state in
    let n = process_count c.args.state.now in
    let inv = c.loop-global.invariant in
    let test = c.loop-global-test.false in
    let within = c.loop-global.auto.global-end in
    let end = c.len-global-end.ensures in
    let last : length p.globals ≡ c.loop-global.global = omega arith in
    let same : at_globals p crashes n s c.loop-global.global ≡ at_arrays p crashes (process_count s) s 0 =
    ap (at_globals p crashes n s) (sym last) ∙ globals_end p s inv.fits crashes n ∙ ap (λ k. at_arrays p crashes k s 0) (sym inv.counts) in
    subst (λ (place : Place). GoesOn p place c.loop-global.at c.loop-global.rest.now (at_globals p crashes n c.args.state.now 0) c.args.line c.args.text.now) same
    (inv.goes crashes)
