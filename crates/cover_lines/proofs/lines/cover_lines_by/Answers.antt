use Rattle.std.proofs.Common.{◌<◌, ◌^◌, List, All, length, sym, ap, subst, ◌∙◌}
use Rattle.piece_laws.specs.Test.{PassesTest}
use Rattle.log_form.specs.declared.node.Node.{Node}
use Rattle.log_form.specs.Pieces.{IsAskable, IsExpandable}
use Rattle.log_form.specs.Log.{live_cubes}
use Rattle.core_laws.proofs.LiveLemmas.{live_passes}
use Rattle.predecessors.specs.Predecessors.{ArePieceCubes}
use Rattle.cover_lines.specs.Added.{AreGoalsCovered}
use Rattle.cover_lines.proofs.AddLemmas.{all_lines}
use Rattle.cover_lines.proofs.LogLemmas.{log_few, live_count, nodes_askable, safe_expandable, goals_covered, lawful_certificate}
use Rattle.cover_lines.proofs.TestLemmas.{pass_lines}
use Rattle.cover_lines.proofs.lines.cover_lines_by.Goals as goal

pub push_all_live-requires-clause-fit : goal.push_all_live-requires-clause-fit
push_all_live-requires-clause-fit g c =
    let log = c.args.log.now in
    subst (λ q. All (λ (n : Node). IsAskable q n.cube) c.nodes.result.now) (sym c.requires.protocol)
    (subst (λ (ns : List Node). All (λ (n : Node). IsAskable log.protocol n.cube) ns) (sym c.nodes.ensures.value) (nodes_askable log c.nodes.ensures.legal))

pub push_all_live-requires-clause-few : goal.push_all_live-requires-clause-few
push_all_live-requires-clause-few g c =
    subst (λ (ns : List Node). length ns < 2 ^ 32) (sym c.nodes.ensures.value) (log_few ArePieceCubes c.args.log.now c.nodes.ensures.legal)

pub push_goal_lines-requires-clause-covered : goal.push_goal_lines-requires-clause-covered
push_goal_lines-requires-clause-covered g c =
    let log = c.args.log.now in
    let p = c.args.protocol.now in
    let listed = c.in_ok-push_all_live.ensures.ok ∙ ap live_cubes c.nodes.ensures.value in
    let passes = subst (λ q. PassesTest q (live_cubes log.nodes)) (sym c.requires.protocol) (live_passes log c.nodes.ensures.legal c.requires.safe) in
    subst (AreGoalsCovered p) (sym listed) (goals_covered p (live_cubes log.nodes) passes)

pub push_piece_lines-requires-clause-expandable : goal.push_piece_lines-requires-clause-expandable
push_piece_lines-requires-clause-expandable g c =
    let log = c.args.log.now in
    let p = c.args.protocol.now in
    let listed = c.push_goal_lines.ensures.same ∙ (c.in_ok-push_all_live.ensures.ok ∙ ap live_cubes c.nodes.ensures.value) in
    subst (All (IsExpandable p)) (sym listed) (subst (λ q. All (IsExpandable q) (live_cubes log.nodes)) (sym c.requires.protocol) (safe_expandable log c.nodes.ensures.legal c.requires.safe))

pub push_piece_lines-requires-clause-passes : goal.push_piece_lines-requires-clause-passes
push_piece_lines-requires-clause-passes g c =
    let log = c.args.log.now in
    let p = c.args.protocol.now in
    let listed = c.push_goal_lines.ensures.same ∙ (c.in_ok-push_all_live.ensures.ok ∙ ap live_cubes c.nodes.ensures.value) in
    subst (PassesTest p) (sym listed) (subst (λ q. PassesTest q (live_cubes log.nodes)) (sym c.requires.protocol) (live_passes log c.nodes.ensures.legal c.requires.safe))

pub returns-clause-lines : goal.returns-clause-lines
returns-clause-lines g c =
    let log = c.args.log.now in
    let p = c.args.protocol.now in
    let listed = c.in_ok-push_all_live.ensures.ok ∙ ap live_cubes c.nodes.ensures.value in
    let all = all_lines p (live_cubes log.nodes) (g.F.Finder.list c.push_all_live.new.finder) (g.F.Finder.list c.push_goal_lines.new.finder) c.new-lines.result c.push_goal_lines.new.lines c.push_piece_lines.new.lines
    c.new-lines.ensures listed (c.push_goal_lines.ensures.same ∙ listed) c.in_ok-push_goal_lines.ensures.lines c.in_ok-push_piece_lines.ensures.lines in
    all.cover

pub returns-clause-passes : goal.returns-clause-passes
returns-clause-passes g c =
    let log = c.args.log.now in
    let p = c.args.protocol.now in
    let listed = c.in_ok-push_all_live.ensures.ok ∙ ap live_cubes c.nodes.ensures.value in
    let all = all_lines p (live_cubes log.nodes) (g.F.Finder.list c.push_all_live.new.finder) (g.F.Finder.list c.push_goal_lines.new.finder) c.new-lines.result c.push_goal_lines.new.lines c.push_piece_lines.new.lines
    c.new-lines.ensures listed (c.push_goal_lines.ensures.same ∙ listed) c.in_ok-push_goal_lines.ensures.lines c.in_ok-push_piece_lines.ensures.lines in
    let passes = subst (λ q. PassesTest q (live_cubes log.nodes)) (sym c.requires.protocol) (live_passes log c.nodes.ensures.legal c.requires.safe) in
    pass_lines p (live_cubes log.nodes) c.push_piece_lines.new.lines passes all.cover

pub returns-clause-lawful : goal.returns-clause-lawful
returns-clause-lawful g c =
    let log = c.args.log.now in
    let p = c.args.protocol.now in
    let listed = c.in_ok-push_all_live.ensures.ok ∙ ap live_cubes c.nodes.ensures.value in
    let all = all_lines p (live_cubes log.nodes) (g.F.Finder.list c.push_all_live.new.finder) (g.F.Finder.list c.push_goal_lines.new.finder) c.new-lines.result c.push_goal_lines.new.lines c.push_piece_lines.new.lines
    c.new-lines.ensures listed (c.push_goal_lines.ensures.same ∙ listed) c.in_ok-push_goal_lines.ensures.lines c.in_ok-push_piece_lines.ensures.lines in
    lawful_certificate p (live_cubes log.nodes) c.push_piece_lines.new.lines (live_count ArePieceCubes log c.nodes.ensures.legal)
    (subst (λ q. All (IsExpandable q) (live_cubes log.nodes)) (sym c.requires.protocol) (safe_expandable log c.nodes.ensures.legal c.requires.safe)) all.cover all.few
