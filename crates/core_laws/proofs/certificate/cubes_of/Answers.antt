use Rattle.std.proofs.Common.{◌≤◌, length, sym, ap, subst, ◌∙◌}
use Rattle.std.specs.Prelude.{All}
use Rattle.cub_cube.specs.Meaning.{IsConsistent}
use Rattle.cub_cube.specs.Inductive.{IsInductive}
use Rattle.piece_laws.specs.Test.{PassesTest}
use Rattle.predecessors.specs.Predecessors.{ArePieceCubes}
use Rattle.predecessors.specs.Facts.{are_possible, stay_fit}
use Rattle.log_form.specs.Pieces.{IsFit, widest, greatest_expanded}
use Rattle.log_form.specs.Log.{live_cubes}
use Rattle.core_laws.specs.Apart.{AreApart}
use Rattle.core_laws.proofs.LiveLemmas.{live_fit, live_possible, live_are_apart, live_few, live_narrow_all, live_passes, live_inductive}
use Rattle.core_laws.proofs.certificate.cubes_of.Goals as goal

pub returns-clause-value : goal.returns-clause-value
returns-clause-value c = c.in_ok-cubes.ensures ∙ ap live_cubes c.nodes-nodes.ensures.value

pub returns-clause-fit : goal.returns-clause-fit
returns-clause-fit c = subst (All (IsFit c.args.log.now.protocol widest greatest_expanded)) (sym (c.in_ok-cubes.ensures ∙ ap live_cubes c.nodes-nodes.ensures.value)) (live_fit ArePieceCubes are_possible stay_fit c.args.log.now c.nodes-nodes.ensures.legal)

pub returns-clause-possible : goal.returns-clause-possible
returns-clause-possible c = subst (All (λ d. IsConsistent c.args.log.now.protocol d.width d.lits)) (sym (c.in_ok-cubes.ensures ∙ ap live_cubes c.nodes-nodes.ensures.value)) (live_possible ArePieceCubes are_possible stay_fit c.args.log.now c.nodes-nodes.ensures.legal)

pub returns-clause-apart : goal.returns-clause-apart
returns-clause-apart c = subst (AreApart c.args.log.now.protocol) (sym (c.in_ok-cubes.ensures ∙ ap live_cubes c.nodes-nodes.ensures.value)) (live_are_apart ArePieceCubes c.args.log.now c.nodes-nodes.ensures.legal)

pub returns-clause-few : goal.returns-clause-few
returns-clause-few c = subst (λ cubes. length cubes ≤ c.args.log.now.budget.cubes) (sym (c.in_ok-cubes.ensures ∙ ap live_cubes c.nodes-nodes.ensures.value)) (live_few ArePieceCubes c.args.log.now c.nodes-nodes.ensures.legal)

pub returns-clause-narrow : goal.returns-clause-narrow
returns-clause-narrow c says = subst (All (λ d. d.width ≤ c.args.log.now.budget.width)) (sym (c.in_ok-cubes.ensures ∙ ap live_cubes c.nodes-nodes.ensures.value)) (live_narrow_all c.args.log.now says)

pub returns-clause-passes : goal.returns-clause-passes
returns-clause-passes c says = subst (PassesTest c.args.log.now.protocol) (sym (c.in_ok-cubes.ensures ∙ ap live_cubes c.nodes-nodes.ensures.value)) (live_passes c.args.log.now c.nodes-nodes.ensures.legal says)

pub returns-clause-inductive : goal.returns-clause-inductive
returns-clause-inductive c says = subst (IsInductive c.args.log.now.protocol) (sym (c.in_ok-cubes.ensures ∙ ap live_cubes c.nodes-nodes.ensures.value)) (live_inductive c.args.log.now c.nodes-nodes.ensures.legal says)
