use Rattle.std.proofs.Common.{◌≡◌, ◌-◌, ◌+◌, length, Some, arith}
use Rattle.std.proofs.lemmas.Result.{err_from_is_err_and}
use Rattle.cub_lexer.specs.declared.token.TokenKind.TheVariants as k
use Rattle.cub_parse.specs.Parsing.{unit, conj_of, next_joined}
use Rattle.cub_parse.proofs.Loop.{Goes, loop_start, loop_item, loop_none, loop_fails, loop_over}
use Rattle.cub_parse.proofs.formulas.+form.Goals as goal

pub units-loop-init : goal.units-loop-init
units-loop-init t c = rw c.new-found.ensures (loop_start (next_joined k.And (unit c.args.levels)) c.args.leaves.now (length c.args.leaves.now + 1 - 0) (omega arith))

pub units-returns-in_err-next : goal.units-returns-in_err-next
units-returns-in_err-next t c =
    let p = err_from_is_err_and c.from_residual.result c.from_residual.ensures.1 in
    rw (p.1, p.2) (loop_fails (next_joined k.And (unit c.args.levels)) c.args.leaves.now c.loop.found (length c.args.leaves.now + 1 - c.loop.counter) (length c.args.leaves.now - c.loop.counter)
    c.loop.rest.now c.in_err-next.field-0.0 (omega arith) c.in_err-next.ensures c.loop.invariant)

pub units-returns-in-None : goal.units-returns-in-None
units-returns-in-None t c =
    loop_none (next_joined k.And (unit c.args.levels)) c.args.leaves.now c.loop.found (length c.args.leaves.now + 1 - c.loop.counter) (length c.args.leaves.now - c.loop.counter)
    c.loop.rest.now c.in_ok-next.behind.now (omega arith) (rw c.in-None.is at c.in_ok-next.ensures) c.loop.invariant

pub units-loop-preserved : goal.units-loop-preserved
units-loop-preserved t c =
    let more = loop_item (next_joined k.And (unit c.args.levels)) c.args.leaves.now c.loop.found c.in-Some.item (length c.args.leaves.now + 1 - c.loop.counter) (length c.args.leaves.now + 1 - (c.loop.counter + 1))
    c.loop.rest.now c.in_ok-next.behind.now (omega arith) (rw c.in-Some.is at c.in_ok-next.ensures) c.loop.invariant in
    rw c.in_ok-push-in-Some.ensures.ok more

pub units-returns : goal.units-returns
units-returns t c = loop_over (next_joined k.And (unit c.args.levels)) c.args.leaves.now c.loop.found (length c.args.leaves.now + 1 - c.loop.counter) c.loop.rest.now (omega arith) c.loop.invariant

pub conjs-loop-init : goal.conjs-loop-init
conjs-loop-init t c = rw c.new-found.ensures (loop_start (next_joined k.Or (conj_of (unit c.args.levels))) c.args.leaves.now (length c.args.leaves.now + 1 - 0) (omega arith))

pub conjs-returns-in_err-next : goal.conjs-returns-in_err-next
conjs-returns-in_err-next t c =
    let p = err_from_is_err_and c.from_residual.result c.from_residual.ensures.1 in
    rw (p.1, p.2) (loop_fails (next_joined k.Or (conj_of (unit c.args.levels))) c.args.leaves.now c.loop.found (length c.args.leaves.now + 1 - c.loop.counter) (length c.args.leaves.now - c.loop.counter)
    c.loop.rest.now c.in_err-next.field-0.0 (omega arith) c.in_err-next.ensures c.loop.invariant)

pub conjs-returns-in-None : goal.conjs-returns-in-None
conjs-returns-in-None t c =
    loop_none (next_joined k.Or (conj_of (unit c.args.levels))) c.args.leaves.now c.loop.found (length c.args.leaves.now + 1 - c.loop.counter) (length c.args.leaves.now - c.loop.counter)
    c.loop.rest.now c.in_ok-next.behind.now (omega arith) (rw c.in-None.is at c.in_ok-next.ensures) c.loop.invariant

pub conjs-loop-preserved : goal.conjs-loop-preserved
conjs-loop-preserved t c =
    let more = loop_item (next_joined k.Or (conj_of (unit c.args.levels))) c.args.leaves.now c.loop.found c.in-Some.item (length c.args.leaves.now + 1 - c.loop.counter) (length c.args.leaves.now + 1 - (c.loop.counter + 1))
    c.loop.rest.now c.in_ok-next.behind.now (omega arith) (rw c.in-Some.is at c.in_ok-next.ensures) c.loop.invariant in
    rw c.in_ok-push-in-Some.ensures.ok more

pub conjs-returns : goal.conjs-returns
conjs-returns t c = loop_over (next_joined k.Or (conj_of (unit c.args.levels))) c.args.leaves.now c.loop.found (length c.args.leaves.now + 1 - c.loop.counter) c.loop.rest.now (omega arith) c.loop.invariant
