use Rattle.std.proofs.Common.{◌≡◌, ◌+◌, length, [], arith, ◌∙◌, ap, sym, subst}
use Rattle.std.proofs.lemmas.Result.{err_from_is_err_and}
use Rattle.cub_proto.specs.Configuration.{process_count}
use Rattle.trace_text.specs.Place.{Place, Events, GoesOn, IsFaultOf}
use Rattle.trace_text.specs.Values.{at_arrays}
use Rattle.trace_text.proofs.Steps.{fault_from, goes_through}
use Rattle.trace_text.proofs.StartLaws.{arrays_end}
use Rattle.trace_text.proofs.start.read_arrays.Goals as goal

pub returns-in_err-next-clause-err : goal.returns-in_err-next-clause-err
returns-in_err-next-clause-err c =
    let e = err_from_is_err_and c.from_residual.result c.from_residual.ensures.1 in
    let p = c.args.protocol.now in
    let s = c.loop-array.state in
    let n = process_count c.args.state.now in
    let inv = c.loop-array.invariant in
    rw (e.1, e.2) (λ crashes.
    fault_from p (at_arrays p crashes n s c.loop-array.array) c.loop-array.at c.loop-array.rest.now (at_arrays p crashes n c.args.state.now 0) c.args.line c.args.text.now
    c.in_err-next.field-0.0 (inv.goes crashes)
    (subst (λ k. IsFaultOf p (at_arrays p crashes k s c.loop-array.array) c.loop-array.at c.loop-array.rest.now c.in_err-next.field-0.0) inv.counts
    (c.in_err-next.ensures.err crashes)))

pub loop-array-preserved : goal.loop-array-preserved
loop-array-preserved c =
    let p = c.args.protocol.now in
    let s = c.loop-array.state in
    let t = c.read_cells.new.state in
    let n = process_count c.args.state.now in
    let inv = c.loop-array.invariant in
    let both = c.in_ok-next.ensures.count ∙ inv.counts in
    let room = inv.room in
    let less = c.in_ok-next.ensures.room in
    record {
      fits = c.in_ok-next.ensures.fits;
      counts = both;
      room = omega arith;
      goes = λ crashes.
          goes_through p (at_arrays p crashes n t (c.loop-array.array + 1)) c.in_ok-next.next c.in_ok-next.behind.now (at_arrays p crashes n s c.loop-array.array) c.loop-array.at
          c.loop-array.rest.now (at_arrays p crashes n c.args.state.now 0) c.args.line c.args.text.now
          (subst (λ k. GoesOn p (at_arrays p crashes k t (c.loop-array.array + 1)) c.in_ok-next.next c.in_ok-next.behind.now (at_arrays p crashes n s c.loop-array.array)
          c.loop-array.at c.loop-array.rest.now) both
          (subst (λ k. GoesOn p (at_arrays p crashes (process_count t) t (c.loop-array.array + 1)) c.in_ok-next.next c.in_ok-next.behind.now
          (at_arrays p crashes k s c.loop-array.array) c.loop-array.at c.loop-array.rest.now) inv.counts (c.in_ok-next.ensures.ok crashes))) (inv.goes crashes);
    }

pub returns-clause-ok : goal.returns-clause-ok
returns-clause-ok c = λ crashes.
    let p = c.args.protocol.now in
    let s = c.loop-array.state in
    let n = process_count c.args.state.now in
    let inv = c.loop-array.invariant in
    let test = c.loop-array-test.false in
    let within = c.loop-array.auto.array-end in
    let end = c.len-array-end.ensures in
    let last : length p.arrays ≡ c.loop-array.array = omega arith in
    let same : at_arrays p crashes n s c.loop-array.array ≡ Events crashes s [] =
    ap (at_arrays p crashes n s) (sym last) ∙ arrays_end p s inv.fits crashes n (sym inv.counts) in
    subst (λ (place : Place). GoesOn p place c.loop-array.at c.loop-array.rest.now (at_arrays p crashes n c.args.state.now 0) c.args.line c.args.text.now) same
    (inv.goes crashes)
