use Rattle.log_steps.proofs.JudgeLemmas.{joined}
use Rattle.log_steps.specs.Judged.{pick_cubes}
use Rattle.log_steps.proofs.judging.is_covered.Goals as goal

pub returns-clause-value : goal.returns-clause-value
returns-clause-value g c =
    joined c.args.protocol.now (g.F.Finder.list c.args.finder.now) (pick_cubes c.args.picks.now) c.args.cube.now c.picks_cover.result
    (λ h. let t = c.is_covered.ensures.value.1 h in let f = c.if-is_covered.false in cc) c.picks_cover.ensures.value
