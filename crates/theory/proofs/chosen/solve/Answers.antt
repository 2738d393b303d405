use Rattle.std.proofs.Common.{◌≡◌, ◌↔◌, ℕ, ◌≤◌, ◌∙◌, sym, ap, subst, refl, arith, ◌++◌, List, Bool, true, false}
use Rattle.std.specs.Prelude.{IsTrue, All}
use Rattle.std.proofs.lemmas.Bool.{false≢true}
use Rattle.cub_proto.specs.declared.literal.Lit.{Lit}
use Rattle.proc_eq.specs.Solution.{sides_fit}
use Rattle.proc_eq.specs.Classes.{entry_of}
use Rattle.proc_eq.specs.Choice.{IsLeastChoice}
use Rattle.theory_laws.specs.Fitting.{AreFitting}
use Rattle.theory_laws.proofs.Parts.{all_proc, all_small}
use Rattle.theory.proofs.Parting.{both_fitting, fin_here, diff_here, finite_refuted, processes_refuted, integers_refuted, all_parts, refuted}
use Rattle.theory.proofs.chosen.solve.Goals as goal

pub solve-requires-clause-fit : goal.solve-requires-clause-fit
solve-requires-clause-fit c = fin_here c.args.protocol.now c.args.width c.args.lits.now c.args.masks.now c.requires.size c.requires.fitting

pub solve-requires-clause-more_fit : goal.solve-requires-clause-more_fit
solve-requires-clause-more_fit c = fin_here c.args.protocol.now c.args.width c.args.more.now c.args.masks.now c.requires.size c.requires.more_fitting

pub returns-then-not-solve-clause-exact : goal.returns-then-not-solve-clause-exact
returns-then-not-solve-clause-exact c =
    let whole : AreFitting c.args.protocol.now c.args.width (c.args.lits.now ++ c.args.more.now) = both_fitting c.args.protocol.now c.args.width c.args.lits.now c.args.more.now c.requires.fitting c.requires.more_fitting in
    ((λ h. absurd (false≢true h)), (λ has. absurd (finite_refuted c.args.protocol.now c.args.width (c.args.lits.now ++ c.args.more.now) whole (refuted c.solve.result _ c.if-not-solve.true c.solve.ensures.exact) has)))

pub close-requires-clause-fit : goal.close-requires-clause-fit
close-requires-clause-fit c = all_proc c.args.protocol.now c.args.width c.args.lits.now c.requires.fitting

pub close-requires-clause-more_fit : goal.close-requires-clause-more_fit
close-requires-clause-more_fit c = all_proc c.args.protocol.now c.args.width c.args.more.now c.requires.more_fitting

pub returns-then-not-close-clause-exact : goal.returns-then-not-close-clause-exact
returns-then-not-close-clause-exact c =
    let whole : AreFitting c.args.protocol.now c.args.width (c.args.lits.now ++ c.args.more.now) = both_fitting c.args.protocol.now c.args.width c.args.lits.now c.args.more.now c.requires.fitting c.requires.more_fitting in
    ((λ h. absurd (false≢true h)), (λ has. absurd (processes_refuted c.args.protocol.now c.args.width (c.args.lits.now ++ c.args.more.now) whole (refuted c.close.result _ c.if-not-close.true c.close.ensures.exact) has)))

pub close_integers-requires-clause-terms : goal.close_integers-requires-clause-terms
close_integers-requires-clause-terms c =
    let whole : AreFitting c.args.protocol.now c.args.width (c.args.lits.now ++ c.args.more.now) = both_fitting c.args.protocol.now c.args.width c.args.lits.now c.args.more.now c.requires.fitting c.requires.more_fitting in
    diff_here c.args.protocol.now c.args.width (c.args.lits.now ++ c.args.more.now) c.args.integers.now.room c.requires.room whole

pub close_integers-requires-clause-bounds : goal.close_integers-requires-clause-bounds
close_integers-requires-clause-bounds c =
    let whole : AreFitting c.args.protocol.now c.args.width (c.args.lits.now ++ c.args.more.now) = both_fitting c.args.protocol.now c.args.width c.args.lits.now c.args.more.now c.requires.fitting c.requires.more_fitting in
    all_small c.args.protocol.now c.args.width (c.args.lits.now ++ c.args.more.now) whole

pub returns-then-not-close_integers-clause-exact : goal.returns-then-not-close_integers-clause-exact
returns-then-not-close_integers-clause-exact c =
    let whole : AreFitting c.args.protocol.now c.args.width (c.args.lits.now ++ c.args.more.now) = both_fitting c.args.protocol.now c.args.width c.args.lits.now c.args.more.now c.requires.fitting c.requires.more_fitting in
    ((λ h. absurd (false≢true h)), (λ has. absurd (integers_refuted c.args.protocol.now c.args.width (c.args.lits.now ++ c.args.more.now) whole (refuted c.close_integers.result _ c.if-not-close_integers.true c.close_integers.ensures.exact) has)))

pub choose-requires-clause-closed : goal.choose-requires-clause-closed
choose-requires-clause-closed c = c.close.ensures.closed c.if-not-close.false

pub choose-requires-clause-narrow : goal.choose-requires-clause-narrow
choose-requires-clause-narrow c = omega (arith, c.close.ensures.width, c.requires.fitting.narrow)

pub choose-requires-clause-fit : goal.choose-requires-clause-fit
choose-requires-clause-fit c =
    subst (λ (w : ℕ). All (λ lit. IsTrue (sides_fit w lit)) c.args.lits.now) (sym c.close.ensures.width) (all_proc c.args.protocol.now c.args.width c.args.lits.now c.requires.fitting)

pub choose-requires-clause-more_fit : goal.choose-requires-clause-more_fit
choose-requires-clause-more_fit c =
    subst (λ (w : ℕ). All (λ lit. IsTrue (sides_fit w lit)) c.args.more.now) (sym c.close.ensures.width) (all_proc c.args.protocol.now c.args.width c.args.more.now c.requires.more_fitting)

pub returns-clause-exact : goal.returns-clause-exact
returns-clause-exact c =
    let whole : AreFitting c.args.protocol.now c.args.width (c.args.lits.now ++ c.args.more.now) = both_fitting c.args.protocol.now c.args.width c.args.lits.now c.args.more.now c.requires.fitting c.requires.more_fitting in (
      (λ h. all_parts c.args.protocol.now c.args.width (c.args.lits.now ++ c.args.more.now) whole (c.solve.ensures.exact.0 c.if-not-solve.false) (c.close.ensures.exact.0 c.if-not-close.false) (c.close_integers.ensures.exact.0 c.if-not-close_integers.false)),
      (λ has. refl),
    )

pub returns-clause-solved : goal.returns-clause-solved
returns-clause-solved c h = record {
  least = c.solve.ensures.least c.if-not-solve.false;
  chosen = subst (λ (w : ℕ). IsLeastChoice w (c.args.lits.now ++ c.args.more.now) (entry_of c.choose.new.self.processes)) (c.choose.ensures.width ∙ c.close.ensures.width) c.choose.ensures.chosen;
  closed = c.close_integers.ensures.closed c.if-not-close_integers.false;
}
