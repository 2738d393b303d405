use Rattle.std.proofs.Common.{length, subst, ◌∙◌, append-nil}
use Rattle.std.specs.Prelude.{Some, None, []}
use Rattle.log_form.specs.Links.{IsFirstUnder}
use Rattle.log_steps.specs.Judged.{AreUnder}
use Rattle.log_steps.proofs.JudgeLemmas.{under_more}
use Rattle.log_steps.proofs.judging.links.Goals as goal

pub loop-under-preserved : goal.loop-under-preserved
loop-under-preserved g c =
    let invariant = c.loop-under.invariant in
    record {
      made = c.under.ensures.made;
      serves = c.under.ensures.serves;
      same = c.under.ensures.same ∙ invariant.same;
      rest = under_more c.args.protocol.now (g.F.Finder.list c.args.finder.now) c.loop-under.at c.args.cube.now c.loop-under.under c.push.new.list
          (record { node = c.in-Some.link.0; places = c.in-Some.link.1 }) invariant.rest
          (subst (λ cs. IsFirstUnder c.args.protocol.now cs c.loop-under.at (length cs) c.args.cube.now (Some (c.in-Some.link.0, c.in-Some.link.1))) invariant.same c.in-Some.ensures.first)
          c.in_ok-push.ensures.ok;
    }

pub returns-clause-value : goal.returns-clause-value
returns-clause-value g c =
    let invariant = c.loop-under.invariant in
    subst (AreUnder c.args.protocol.now (g.F.Finder.list c.args.finder.now) 0 c.args.cube.now) (append-nil c.loop-under.under)
    (invariant.rest [] (subst (λ cs. IsFirstUnder c.args.protocol.now cs c.loop-under.at (length cs) c.args.cube.now None) invariant.same c.in_default.ensures.first))
