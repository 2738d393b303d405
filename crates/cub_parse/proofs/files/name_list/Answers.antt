use Rattle.std.proofs.Common.{◌≡◌, ◌-◌, ◌+◌, length, subst, sym, ap, ◌∙◌, Some, arith}
use Rattle.std.proofs.lemmas.Result.{err_from_is_err_and}
use Rattle.cub_parse.specs.Parsing.{maybe, word}
use Rattle.cub_parse.proofs.Loop.{Goes, loop_start, loop_item, loop_none, loop_fails, loop_over}
use Rattle.std.proofs.Common.{◌∷◌, []}
use Rattle.cub_lexer.specs.declared.token.TokenKind.TheVariants as k
use Rattle.cub_parse.proofs.files.name_list.Goals as goal

pub loop-init : goal.loop-init
loop-init c = rw c.new-found.ensures (loop_start (maybe (k.Name ∷ []) (word k.Name)) c.args.leaves.now (length c.args.leaves.now + 1 - 0) (omega arith))

pub returns-in_err-next : goal.returns-in_err-next
returns-in_err-next c =
    let p = err_from_is_err_and c.from_residual.result c.from_residual.ensures.1 in
    rw (p.1, p.2) (loop_fails (maybe (k.Name ∷ []) (word k.Name)) c.args.leaves.now c.loop.found (length c.args.leaves.now + 1 - c.loop.counter) (length c.args.leaves.now - c.loop.counter)
    c.loop.rest.now c.in_err-next.field-0.0 (omega arith) c.in_err-next.ensures c.loop.invariant)

pub returns-in-None : goal.returns-in-None
returns-in-None c =
    loop_none (maybe (k.Name ∷ []) (word k.Name)) c.args.leaves.now c.loop.found (length c.args.leaves.now + 1 - c.loop.counter) (length c.args.leaves.now - c.loop.counter)
    c.loop.rest.now c.in_ok-next.behind.now (omega arith) (rw c.in-None.is at c.in_ok-next.ensures) c.loop.invariant

pub loop-preserved : goal.loop-preserved
loop-preserved c =
    let more = loop_item (maybe (k.Name ∷ []) (word k.Name)) c.args.leaves.now c.loop.found c.in-Some.item (length c.args.leaves.now + 1 - c.loop.counter) (length c.args.leaves.now + 1 - (c.loop.counter + 1))
    c.loop.rest.now c.in_ok-next.behind.now (omega arith) (rw c.in-Some.is at c.in_ok-next.ensures) c.loop.invariant in
    rw c.in_ok-push-in-Some.ensures.ok more

pub returns : goal.returns
returns c = loop_over (maybe (k.Name ∷ []) (word k.Name)) c.args.leaves.now c.loop.found (length c.args.leaves.now + 1 - c.loop.counter) c.loop.rest.now (omega arith) c.loop.invariant
