use Rattle.std.proofs.Common.{◌++◌, [], sym, ◌∙◌}
use Rattle.std.proofs.lemmas.Bool.{true_from_ne_false, false≢true}
use Rattle.proc_eq.specs.Classes.{entry_of}
use Rattle.proc_eq.specs.Merged.{AreMerged, is_disequality_true}
use Rattle.proc_eq.proofs.Conjunction.{solves_front}
use Rattle.cub_base.proofs.Conjunctions.{list_all_join}
use Rattle.proc_eq.proofs.Merging.{merged_none}
use Rattle.proc_eq.proofs.Closing.{closed, broken_first, broken_second, all_wider, merged_both}
use Rattle.proc_eq.proofs.labels.close.Goals as goal

pub returns-then-not-take_all-clause-exact : goal.returns-then-not-take_all-clause-exact
returns-then-not-take_all-clause-exact c = (
  (λ e. absurd (false≢true e)),
  (λ solution. absurd (c.take_all.ensures.none c.if-not-take_all.true [] (merged_none c.args.width c.reset.new.labels c.reset.ensures.size c.reset.ensures.own)
      solution.0 (solves_front c.args.width c.args.lits.now c.args.more.now solution.0 solution.1))),
)

pub returns-then-not-take_all-2-clause-exact : goal.returns-then-not-take_all-2-clause-exact
returns-then-not-take_all-2-clause-exact c =
    let first : AreMerged c.args.width c.args.lits.now c.take_all.new.labels =
    c.take_all.ensures.taken c.if-not-take_all.false [] (merged_none c.args.width c.reset.new.labels c.reset.ensures.size c.reset.ensures.own) in (
      (λ e. absurd (false≢true e)),
      (λ solution. absurd (c.take_all-2.ensures.none c.if-not-take_all-2.true c.args.lits.now first solution.0 solution.1)),
    )

pub returns-then-not-all_differ-clause-exact : goal.returns-then-not-all_differ-clause-exact
returns-then-not-all_differ-clause-exact c =
    let both : AreMerged c.args.width (c.args.lits.now ++ c.args.more.now) c.take_all-2.new.labels =
    merged_both c.args.width c.args.lits.now c.args.more.now c.reset.new.labels c.take_all.new.labels c.take_all-2.new.labels c.reset.ensures.size c.reset.ensures.own
    (c.take_all.ensures.taken c.if-not-take_all.false) (c.take_all-2.ensures.taken c.if-not-take_all-2.false) in (
      (λ e. absurd (false≢true e)),
      (λ solution. absurd (broken_first c.args.width c.args.lits.now c.args.more.now c.take_all-2.new.labels both
          (all_wider c.args.width c.requires.narrow c.args.lits.now c.requires.fit) (sym c.all_differ.ensures ∙ c.if-not-all_differ.true) solution)),
    )

pub returns-clause-exact : goal.returns-clause-exact
returns-clause-exact c =
    let both : AreMerged c.args.width (c.args.lits.now ++ c.args.more.now) c.take_all-2.new.labels =
    merged_both c.args.width c.args.lits.now c.args.more.now c.reset.new.labels c.take_all.new.labels c.take_all-2.new.labels c.reset.ensures.size c.reset.ensures.own
    (c.take_all.ensures.taken c.if-not-take_all.false) (c.take_all-2.ensures.taken c.if-not-take_all-2.false) in (
      (λ e. (
        entry_of c.take_all-2.new.labels,
        (closed c.args.width (c.args.lits.now ++ c.args.more.now) c.take_all-2.new.labels c.requires.narrow both
            (list_all_join (is_disequality_true (entry_of c.take_all-2.new.labels)) c.args.lits.now c.args.more.now
            (sym c.all_differ.ensures ∙ c.if-not-all_differ.false) (sym c.all_differ-2.ensures ∙ e))).solves,
      )),
      (λ solution. true_from_ne_false _ (λ wrong. broken_second c.args.width c.args.lits.now c.args.more.now c.take_all-2.new.labels both
          (all_wider c.args.width c.requires.narrow c.args.more.now c.requires.more_fit) (sym c.all_differ-2.ensures ∙ wrong) solution)),
    )

pub returns-clause-closed : goal.returns-clause-closed
returns-clause-closed c e =
    let both : AreMerged c.args.width (c.args.lits.now ++ c.args.more.now) c.take_all-2.new.labels =
    merged_both c.args.width c.args.lits.now c.args.more.now c.reset.new.labels c.take_all.new.labels c.take_all-2.new.labels c.reset.ensures.size c.reset.ensures.own
    (c.take_all.ensures.taken c.if-not-take_all.false) (c.take_all-2.ensures.taken c.if-not-take_all-2.false) in
    closed c.args.width (c.args.lits.now ++ c.args.more.now) c.take_all-2.new.labels c.requires.narrow both
    (list_all_join (is_disequality_true (entry_of c.take_all-2.new.labels)) c.args.lits.now c.args.more.now
    (sym c.all_differ.ensures ∙ c.if-not-all_differ.false) (sym c.all_differ-2.ensures ∙ e))
