use Rattle.std.proofs.Common.{◌∙◌, ◌+◌, subst, ap, refl, sym, length-append, ◌++◌, ◌∷◌, []}
use Rattle.log_form.specs.Numbering.{with_number, numbered}
use Rattle.log_steps.specs.Judged.{ArePicksSoFar}
use Rattle.log_steps.proofs.JudgeLemmas.{went_on, numbered_more, judged_all}
use Rattle.log_steps.proofs.judging.judge_pieces.Goals as goal

pub loop-picks-preserved : goal.loop-picks-preserved
loop-picks-preserved g c =
    let C = g.S.Decisions.chosen in
    let p = c.args.protocol.now in
    let cubes = g.F.Finder.list c.args.finder.now in
    let invariant = c.loop-picks.invariant in
    let done = invariant.done in
    let x = c.in-Some.piece in
    let piece = with_number c.loop-picks.number x in
    let more = length-append done (x ∷ []) in
    let counted = c.in_ok-number.ensures in
    let before = invariant.count in
    record {
      made = c.judge_piece.ensures.made;
      serves = c.judge_piece.ensures.serves;
      same = c.judge_piece.ensures.same ∙ invariant.same;
      done = done ++ x ∷ [];
      given = (rw c.in-Some.is at c.in_ok-piece.ensures.piece) done invariant.given;
      count = counted ∙ (ap (λ n. n + 1) before ∙ sym more);
      so = subst (λ ys. ArePicksSoFar C p cubes ys c.judge_piece.new.picks c.in_ok-ended.ended) (numbered_more done x c.loop-picks.number invariant.count)
          (went_on C p (g.F.Finder.list c.loop-picks.finder) cubes (numbered done) piece c.loop-picks.picks c.judge_piece.new.picks c.loop-picks.ended c.in_ok-ended.ended invariant.same
          c.in_ok-ended.ensures.more invariant.so);
    }

pub returns-clause-judged : goal.returns-clause-judged
returns-clause-judged g c =
    let invariant = c.loop-picks.invariant in
    record {
      pieces = numbered invariant.done;
      its = record { cubes = invariant.done; its = (rw c.in_default.is at c.in_ok-piece.ensures.all) invariant.done invariant.given; is = refl };
      are = judged_all g.S.Decisions.chosen c.args.protocol.now (g.F.Finder.list c.args.finder.now) (numbered invariant.done) c.loop-picks.picks c.loop-picks.ended invariant.so;
      chosen = invariant.so.chosen;
    }
