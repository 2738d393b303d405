use Rattle.std.proofs.Common.{refl, subst, inl}
use Rattle.cub_proto.specs.declared.cover.CoverLine.{CoverLine}
use Rattle.cub_cube.specs.declared.cube.Cube.{Cube}
use Rattle.cub_cube.specs.Goals.{goal_cube}
use Rattle.cub_cube.specs.Meaning.{IsConsistent}
use Rattle.log_steps.proofs.RootLemmas.{is_goal_cube}
use Rattle.cover_lines.specs.Obligations.{OfGoal}
use Rattle.cover_lines.specs.Lines.{IsFirstOf}
use Rattle.cover_lines.proofs.AddLemmas.{adds_one}
use Rattle.cover_lines.proofs.LogLemmas.{goal_askable, askable_fitting}
use Rattle.cover_lines.proofs.goals.push_goal_line.Goals as goal

pub consistent-requires-clause-fitting : goal.consistent-requires-clause-fitting
consistent-requires-clause-fitting g c =
    let p = c.args.protocol.now in
    let x = c.args.goal.now in
    let same = is_goal_cube p x c.in_ok-cube.cube c.as_slice.result.now c.as_slice.ensures c.in_ok-cube.ensures in
    askable_fitting p c.in_ok-cube.cube (goal_askable p c.args.number x c.in_ok-cube.cube c.requires.its same)

pub first_cover-by-requires-clause-fit : goal.first_cover-by-requires-clause-fit
first_cover-by-requires-clause-fit g c =
    let p = c.args.protocol.now in
    let x = c.args.goal.now in
    let same = is_goal_cube p x c.in_ok-cube.cube c.as_slice.result.now c.as_slice.ensures c.in_ok-cube.ensures in
    goal_askable p c.args.number x c.in_ok-cube.cube c.requires.its same

pub returns-clause-line : goal.returns-clause-line
returns-clause-line g c =
    let p = c.args.protocol.now in
    let x = c.args.goal.now in
    let cubes = g.F.Finder.list c.args.finder.now in
    let same = is_goal_cube p x c.in_ok-cube.cube c.as_slice.result.now c.as_slice.ensures c.in_ok-cube.ensures in
    let by = c.first_cover-by.result.0 in
    let places = c.first_cover-by.result.1 in
    inl (
      subst (λ (d : Cube). IsConsistent p d.width d.lits) same (c.if-not-consistent.ensures.exact.0 refl),
      adds_one p cubes (OfGoal c.args.number (goal_cube p x)) (CoverLine.Unsafe c.args.number by places) c.args.lines.now c.push.new.lines
          (refl, subst (λ d. IsFirstOf p cubes d by places) same c.first_cover-by.ensures.first) c.in_ok-push.ensures,
    )
