use Rattle.std.proofs.Common.{◌∙◌, sym, arith}
use Rattle.subsume.proofs.Placed.{same_next, only_whole, least_here}
use Rattle.subsume.proofs.injections.+search.Goals as goal

pub attempt-returns-clause-least : goal.attempt-returns-clause-least
attempt-returns-clause-least t c h q whole front here =
    c.complete.ensures.least h q whole
    (same_next c.args.protocol.now c.args.big.now c.args.small.now q c.args.places.now c.put_place.new.places c.args.k c.args.c whole c.requires.inside front here (omega (arith, c.put_place.ensures.size)) c.put_place.ensures.front
    (c.put_place.ensures.here c.if-not-put_place.false))

pub attempt-returns-clause-none : goal.attempt-returns-clause-none
attempt-returns-clause-none t c h q whole front here =
    c.complete.ensures.none h q whole
    (same_next c.args.protocol.now c.args.big.now c.args.small.now q c.args.places.now c.put_place.new.places c.args.k c.args.c whole c.requires.inside front here (omega (arith, c.put_place.ensures.size)) c.put_place.ensures.front
    (c.put_place.ensures.here c.if-not-put_place.false))

pub complete-returns-then-k-big-clause-least : goal.complete-returns-then-k-big-clause-least
complete-returns-then-k-big-clause-least t c h q whole front =
    only_whole c.args.protocol.now c.args.big.now c.args.small.now c.args.places.now c.args.k (omega arith) q whole front

pub complete-returns-then-attempt-clause-least : goal.complete-returns-then-attempt-clause-least
complete-returns-then-attempt-clause-least t c h =
    least_here c.args.protocol.now c.args.big.now c.args.small.now c.args.places.now c.attempt.new.places c.args.k c.loop-c.c (omega arith) (omega (arith, c.attempt.ensures.size))
    (c.attempt.ensures.front ∙ c.loop-c.invariant.front) (c.attempt.ensures.here c.if-attempt.true) c.loop-c.invariant.tried
    (λ q whole front. c.attempt.ensures.least c.if-attempt.true q whole (front ∙ sym c.loop-c.invariant.front))
