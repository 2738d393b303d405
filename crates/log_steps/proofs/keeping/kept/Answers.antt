use Rattle.std.proofs.Common.{◌+◌, ◌∙◌, ap, sym, subst, drop}
use Rattle.cub_cube.specs.Cover.{IsCovered}
use Rattle.log_steps.proofs.KeepLemmas.{AreKeptOf, kept_free, kept_covered}
use Rattle.log_steps.proofs.keeping.kept.Goals as goal
use Rattle.log_steps.proofs.keeping.kept.Goals.{then-not-is_covered_since+in_ok-push, else-not-is_covered_since}

pub loop-pick-preserved : goal.loop-pick-preserved
loop-pick-preserved g c =
    let p = c.args.protocol.now in
    let seen = c.args.seen in
    let now = g.F.Finder.list c.loop-pick.finder in
    let since = drop seen (g.F.Finder.list c.args.finder.now) in
    let picks = c.args.picks.now in
    let i = c.loop-pick.pick-index in
    let x = c.pick-item.result in
    let called = c.is_covered_since in
    let invariant = c.loop-pick.invariant in
    elim c.if-not-is_covered_since.branch [
      | then-not-is_covered_since+in_ok-push w ↦ record {
        made = called.ensures.made;
        serves = called.ensures.serves;
        same = called.ensures.same ∙ invariant.same;
        count = ap (λ k. k + 1) invariant.count;
        kept = kept_free p since picks i c.loop-pick.number x c.loop-pick.which c.if-not-is_covered_since.which c.loop-pick-test.true c.pick-item.is invariant.count (w.which-is ∙ w.in_ok-push.ensures.ok)
            (λ h. let t = called.ensures.value.1 (subst (λ cs. IsCovered p (drop seen cs) x.cube) (sym invariant.same) h) in let f = w.if-not-is_covered_since.true in cc)
            invariant.kept;
      }
      | else-not-is_covered_since w ↦ record {
        made = called.ensures.made;
        serves = called.ensures.serves;
        same = called.ensures.same ∙ invariant.same;
        count = ap (λ k. k + 1) invariant.count;
        kept = subst (AreKeptOf p since picks (i + 1)) (sym w.which-is)
            (kept_covered p since picks i x c.loop-pick.which c.loop-pick-test.true c.pick-item.is
            (subst (λ cs. IsCovered p (drop seen cs) x.cube) invariant.same (called.ensures.value.0 w.if-not-is_covered_since.false)) invariant.kept);
      }
    ]
