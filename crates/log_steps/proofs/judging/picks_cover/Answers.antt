use Rattle.std.proofs.Common.{take_all, subst, sym}
use Rattle.cub_cube.specs.Cover.{IsCovered}
use Rattle.log_steps.specs.Judged.{pick_cubes}
use Rattle.log_steps.proofs.JudgeLemmas.{none_more}
use Rattle.log_steps.proofs.judging.picks_cover.Goals as goal

pub loop-pick-preserved : goal.loop-pick-preserved
loop-pick-preserved g c = record {
  made = c.covers.ensures.made;
  none = none_more c.args.protocol.now c.args.picks.now c.loop-pick.pick-index c.pick-item.result c.args.cube.now c.loop-pick-test.true c.pick-item.is c.loop-pick.invariant.none
      (λ h. let t = c.covers.ensures.value.1 h in let f = c.if-covers.false in cc);
}

pub returns-clause-value : goal.returns-clause-value
returns-clause-value g c = (
  λ h. cc,
  λ h. absurd (c.loop-pick.invariant.none
      (subst (λ ks. IsCovered c.args.protocol.now (pick_cubes ks) c.args.cube.now) (sym (take_all c.loop-pick.pick-index c.args.picks.now c.loop-pick-test.false)) h)),
)
