use Rattle.std.proofs.Common.{◌≡◌, ◌-◌, suc, subst, arith, rules}
use Rattle.cube_form.specs.Simple.{Drops}
use Rattle.cube_form.proofs.Simplifying.{turn_drops, turn_length, turn_fitting, turn_met}
use Rattle.cube_form.proofs.simplification.drop_idle.Goals as goal

pub loop-at-preserved : goal.loop-at-preserved
loop-at-preserved c = record {
  kept = search rules;
  made = c.drop_if_idle.ensures.made;
  within = turn_length c.args.protocol.now c.args.width (c.loop-at.at - 1) c.loop-at.lits.items c.drop_if_idle.new.lits.items (let some = c.loop-at-test.true in let le = c.loop-at.invariant.within in omega arith) c.drop_if_idle.ensures.exact;
  fitting = turn_fitting c.args.protocol.now c.args.width (c.loop-at.at - 1) c.loop-at.lits.items c.drop_if_idle.new.lits.items c.loop-at.invariant.fitting c.drop_if_idle.ensures.exact;
  met = λ h. turn_met c.args.protocol.now c.args.width (c.loop-at.at - 1) c.loop-at.lits.items c.drop_if_idle.new.lits.items (c.loop-at.invariant.met h) c.drop_if_idle.ensures.exact;
  rest = λ simple h.
      let same : suc (c.loop-at.at - 1) ≡ c.loop-at.at = omega (arith, c.loop-at-test.true) in
      c.loop-at.invariant.rest simple
      (subst (λ k. Drops c.args.protocol.now c.args.width k c.loop-at.lits.items simple) same
      (turn_drops c.args.protocol.now c.args.width (c.loop-at.at - 1) c.loop-at.lits.items c.drop_if_idle.new.lits.items simple c.drop_if_idle.ensures.exact h));
}
