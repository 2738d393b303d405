use Rattle.std.proofs.Common.{refl, subst}
use Rattle.log_steps.specs.Judged.{IsExact, ArePicksSoFar}
use Rattle.log_steps.proofs.JudgeLemmas.{judged_over, judged_one, free_of, covered_of}
use Rattle.log_steps.proofs.judging.judge_piece.Goals as goal

pub returns-then-is_covered-clause-more : goal.returns-then-is_covered-clause-more
returns-then-is_covered-clause-more g c = λ done are.
    let p = c.args.protocol.now in
    let cubes = g.F.Finder.list c.args.finder.now in
    judged_over g.S.Decisions.chosen p cubes done c.args.piece c.args.picks.now
    (covered_of p cubes cubes c.as_slice.result.now c.args.picks.now c.args.piece.cube c.is_covered.result refl c.as_slice.ensures c.is_covered.ensures.value.0 c.if-is_covered.true)
    (subst (ArePicksSoFar g.S.Decisions.chosen p cubes done c.args.picks.now) c.if-ended.false are)

pub returns-clause-more : goal.returns-clause-more
returns-clause-more g c = λ done are.
    let p = c.args.protocol.now in
    let cubes = g.F.Finder.list c.args.finder.now in
    judged_one g.S.Decisions.chosen p cubes done c.args.piece c.args.picks.now c.push.new.list c.in_ok-pick.pick
    (free_of p cubes cubes c.as_slice.result.now c.args.picks.now c.args.piece.cube c.is_covered.result refl c.as_slice.ensures c.is_covered.ensures.value.1 c.if-is_covered.false)
    c.in_ok-push.ensures.ok
    (record {
      number = c.in_ok-pick.ensures.number;
      form = c.in_ok-pick.ensures.form;
      chosen = c.in_ok-pick.ensures.chosen;
      exact = subst (λ cs. IsExact p cs c.in_ok-pick.pick) c.is_covered.ensures.same c.in_ok-pick.ensures.exact;
      fit = c.in_ok-pick.ensures.fit;
    })
    (subst (ArePicksSoFar g.S.Decisions.chosen p cubes done c.args.picks.now) c.if-ended.false are)
