use Rattle.std.proofs.Common.{[], subst}
use Rattle.std.proofs.lemmas.Result.{err_from_is_err_and}
use Rattle.cub_proto.specs.Configuration.{process_count}
use Rattle.trace_text.specs.Place.{Events, GoesOn, IsFaultOf, behind_globals}
use Rattle.trace_text.specs.Values.{at_arrays}
use Rattle.trace_text.proofs.Steps.{fault_from, goes_through}
use Rattle.trace_text.proofs.start.read_start.Goals as goal

pub returns-in_err-at-clause-err : goal.returns-in_err-at-clause-err
returns-in_err-at-clause-err c =
    let e = err_from_is_err_and c.from_residual-in_err-at.result c.from_residual-in_err-at.ensures.1 in
    let p = c.args.protocol.now in
    rw (e.1, e.2) (λ crashes.
    subst (λ n. IsFaultOf p (behind_globals p crashes n []) c.args.line c.args.text.now c.in_err-at.field-0.0) c.in_ok-state.ensures.count (c.in_err-at.ensures.err crashes))

pub returns-in_err-at-2-clause-err : goal.returns-in_err-at-2-clause-err
returns-in_err-at-2-clause-err c =
    let e = err_from_is_err_and c.from_residual-in_err-at-2.result c.from_residual-in_err-at-2.ensures.1 in
    let p = c.args.protocol.now in
    let s = c.read_globals.new.state in
    rw (e.1, e.2) (λ crashes.
    fault_from p (at_arrays p crashes (process_count s) s 0) c.in_ok-at.at c.in_ok-at.rest.now (behind_globals p crashes c.args.processes []) c.args.line c.args.text.now
    c.in_err-at-2.field-0.0
    (subst (λ n. GoesOn p (at_arrays p crashes (process_count s) s 0) c.in_ok-at.at c.in_ok-at.rest.now (behind_globals p crashes n []) c.args.line c.args.text.now)
    c.in_ok-state.ensures.count (c.in_ok-at.ensures.ok crashes)) (c.in_err-at-2.ensures.err crashes))

pub returns-clause-ok : goal.returns-clause-ok
returns-clause-ok c = λ crashes.
    let p = c.args.protocol.now in
    let s = c.read_globals.new.state in
    goes_through p (Events crashes c.read_arrays.new.state []) c.in_ok-at-2.at c.in_ok-at-2.rest.now (at_arrays p crashes (process_count s) s 0) c.in_ok-at.at
    c.in_ok-at.rest.now (behind_globals p crashes c.args.processes []) c.args.line c.args.text.now (c.in_ok-at-2.ensures.ok crashes)
    (subst (λ n. GoesOn p (at_arrays p crashes (process_count s) s 0) c.in_ok-at.at c.in_ok-at.rest.now (behind_globals p crashes n []) c.args.line c.args.text.now)
    c.in_ok-state.ensures.count (c.in_ok-at.ensures.ok crashes))
