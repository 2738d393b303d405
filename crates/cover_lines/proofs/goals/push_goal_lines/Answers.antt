use Rattle.std.proofs.Common.{sym, subst, ◌∙◌}
use Rattle.cub_cube.specs.Goals.{goal_cube}
use Rattle.cub_cube.specs.Cover.{IsCovered}
use Rattle.log_steps.proofs.RootLemmas.{at_goal}
use Rattle.cover_lines.specs.Added.{AddsGoalLine}
use Rattle.cover_lines.proofs.AddLemmas.{goals_more}
use Rattle.cover_lines.proofs.goals.push_goal_lines.Goals as goal

pub push_goal_line-requires-clause-covered : goal.push_goal_line-requires-clause-covered
push_goal_line-requires-clause-covered g c =
    let p = c.args.protocol.now in
    let i = c.loop-number.number in
    let x = c.index-goals-number.result in
    let (below, is) = at_goal p i x c.as_slice-goals.result.now c.as_slice-goals.ensures c.loop-number-test.true c.index-goals-number.is in
    λ possible. subst (λ cs. IsCovered p cs (goal_cube p x)) (sym c.loop-number.invariant.same) (c.requires.covered x (i, below, sym is) possible)

pub loop-number-preserved : goal.loop-number-preserved
loop-number-preserved g c =
    let p = c.args.protocol.now in
    let cubes = g.F.Finder.list c.args.finder.now in
    let invariant = c.loop-number.invariant in
    let called = c.push_goal_line.ensures in
    let i = c.loop-number.number in
    let x = c.index-goals-number.result in
    let (below, is) = at_goal p i x c.as_slice-goals.result.now c.as_slice-goals.ensures c.loop-number-test.true c.index-goals-number.is in
    record {
      made = called.made;
      serves = called.serves;
      same = called.same ∙ invariant.same;
      lines = goals_more p cubes i x c.args.lines.now c.loop-number.lines c.push_goal_line.new.lines below is invariant.lines
          (subst (λ cs. AddsGoalLine p cs i x c.loop-number.lines c.push_goal_line.new.lines) invariant.same c.in_ok-push_goal_line.ensures.line);
    }
