use Rattle.std.proofs.Common.{◌≡◌, ℕ, ◌+◌, ap, ◌∙◌, arith}
use Rattle.cube_form.proofs.PlaceOrder.{below_next, in_order}
use Rattle.cube_form.proofs.naming.in_order.Goals as goal

pub loop-place-preserved : goal.loop-place-preserved
loop-place-preserved c = record {
  size = c.insert_place.ensures.size ∙ ap (λ (n : ℕ). n + 1) c.loop-place.invariant.size;
  rise = c.insert_place.ensures.rise;
  below = below_next c.loop-place.places c.insert_place.new.places c.loop-place.place c.loop-place.invariant.below c.insert_place.ensures.items;
}

pub returns : goal.returns
returns c =
    let same : c.loop-place.place ≡ c.args.width = omega arith in
    in_order c.args.lits.now c.args.width c.loop-place.place c.loop-place.places same c.loop-place.invariant.size c.loop-place.invariant.rise c.loop-place.invariant.below
