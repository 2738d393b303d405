use Rattle.std.proofs.Common.{◌+◌, take, ap, sym, subst, ◌∙◌}
use Rattle.std.specs.Prelude.{All}
use Rattle.std.proofs.lemmas.List.Elements.{All-push}
use Rattle.log_form.specs.declared.numbered.Numbered.{Numbered}
use Rattle.log_form.specs.Numbering.{with_number}
use Rattle.log_form.specs.Pieces.{IsFit, widest, greatest_asked}
use Rattle.log_steps.proofs.RootLemmas.{AreRootsOf, goal_asks, root_kept, root_dropped, is_goal_cube, at_goal}
use Rattle.log_steps.proofs.roots.consistent_goals.Goals as goal
use Rattle.log_steps.proofs.roots.consistent_goals.Goals.{then-consistent+in_ok-push, else-consistent}

pub consistent-requires-clause-fit : goal.consistent-requires-clause-fit
consistent-requires-clause-fit g c =
    let p = c.args.protocol.now in
    let x = c.goal-item.result in
    let (below, is) = at_goal p c.loop-goal.goal-index x c.as_slice-goal-items.result.now c.as_slice-goal-items.ensures c.loop-goal-test.true c.goal-item.is in
    subst (IsFit p widest greatest_asked) (sym (is_goal_cube p x c.in_ok-cube.cube c.as_slice.result.now c.as_slice.ensures c.in_ok-cube.ensures)) (goal_asks p c.loop-goal.goal-index x below is)

pub loop-goal-preserved : goal.loop-goal-preserved
loop-goal-preserved g c =
    let p = c.args.protocol.now in
    let i = c.loop-goal.goal-index in
    let n = c.loop-goal.number in
    let x = c.goal-item.result in
    let invariant = c.loop-goal.invariant in
    let (below, is) = at_goal p i x c.as_slice-goal-items.result.now c.as_slice-goal-items.ensures c.loop-goal-test.true c.goal-item.is in
    let same = is_goal_cube p x c.in_ok-cube.cube c.as_slice.result.now c.as_slice.ensures c.in_ok-cube.ensures in
    elim c.if-consistent.branch [
      | then-consistent+in_ok-push w ↦ record {
        made = c.consistent.ensures.made;
        count = ap (λ k. k + 1) invariant.count;
        roots = root_kept p i n x c.in_ok-cube.cube c.loop-goal.list c.if-consistent.list below is invariant.count same (c.consistent.ensures.value.0 w.if-consistent.true) (w.list-is ∙ w.in_ok-push.ensures.ok)
            invariant.roots;
        fit = subst (All (λ (r : Numbered). IsFit p widest greatest_asked r.cube)) (sym (w.list-is ∙ w.in_ok-push.ensures.ok))
            (All-push (λ (r : Numbered). IsFit p widest greatest_asked r.cube) c.loop-goal.list (with_number n c.in_ok-cube.cube) invariant.fit (subst (IsFit p widest greatest_asked) (sym same) (goal_asks p i x below is)));
      }
      | else-consistent w ↦ record {
        made = c.consistent.ensures.made;
        count = ap (λ k. k + 1) invariant.count;
        roots = subst (AreRootsOf p (take (i + 1) p.goals)) (sym w.list-is)
            (root_dropped p i n x c.in_ok-cube.cube c.loop-goal.list below is invariant.count same (λ h. let t = c.consistent.ensures.value.1 h in let f = w.if-consistent.false in cc) invariant.roots);
        fit = subst (All (λ (r : Numbered). IsFit p widest greatest_asked r.cube)) (sym w.list-is) invariant.fit;
      }
    ]
