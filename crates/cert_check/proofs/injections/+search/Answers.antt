use Rattle.std.proofs.Common.{ℕ, List, ◌∙◌, sym, arith}
use Rattle.cub_cube.specs.Cover.{Covers}
use Rattle.cert_check.specs.Injections.{cube_of}
use Rattle.cert_check.proofs.Putting.{covers_next, covers_below, partial_whole, tried_more}
use Rattle.cert_check.proofs.injections.+search.Goals as goal

pub attempt-returns-clause-none : goal.attempt-returns-clause-none
attempt-returns-clause-none t c e q covers front here =
    c.complete.ensures.none e q covers
    (covers_next c.args.protocol.now c.args.big.now c.args.count c.args.width c.args.lits.now c.requires.fit q covers c.args.k c.args.c c.put_place.new.places c.requires.inside
    (omega (arith, c.put_place.ensures.size)) (front ∙ sym c.put_place.ensures.front) here (c.put_place.ensures.here c.if-not-put_place.false))

pub complete-returns-then-k-count-clause-found : goal.complete-returns-then-k-count-clause-found
complete-returns-then-k-count-clause-found t c h =
    partial_whole c.args.protocol.now c.args.big.now c.args.width c.args.lits.now c.args.k c.args.places.now (omega (arith, c.requires.size)) c.requires.partial

pub complete-loop-c-preserved : goal.complete-loop-c-preserved
complete-loop-c-preserved t c = record {
  ready = c.attempt.ensures.ready;
  size = c.attempt.ensures.size;
  within = c.attempt.ensures.within;
  front = c.attempt.ensures.front ∙ c.loop-c.invariant.front;
  tried = tried_more (λ (q : List ℕ). Covers c.args.protocol.now (cube_of c.args.count c.args.big.now) (cube_of c.args.width c.args.lits.now) q) c.args.places.now c.args.k c.loop-c.c c.loop-c.invariant.tried
      (λ q covers front here. c.attempt.ensures.none c.if-attempt.false q covers (front ∙ sym c.loop-c.invariant.front) here);
}

pub complete-returns-clause-none : goal.complete-returns-clause-none
complete-returns-clause-none t c e q covers front =
    let late = c.loop-c.invariant.tried q covers front in
    let below = covers_below c.args.protocol.now c.args.big.now c.args.count c.args.width c.args.lits.now c.requires.fit q covers c.args.k (omega arith) in
    omega (arith, late, below)
