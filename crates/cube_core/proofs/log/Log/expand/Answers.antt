use Rattle.std.proofs.Common.{◌≡◌, ◌<◌, length, sym, ap, subst, ◌∙◌}
use Rattle.std.specs.Prelude.{Some, None}
use Rattle.log_form.specs.declared.node.Node.{Node}
use Rattle.log_form.specs.Log.{node_at}
use Rattle.log_form.specs.Pieces.{IsFit, widest_expanded, greatest_expanded}
use Rattle.cube_core.specs.Refusal.{refusal}
use Rattle.cube_core.specs.Answers.{Answers}
use Rattle.cube_core.proofs.FirstLemmas.{log_of}
use Rattle.cube_core.proofs.AnswerLemmas.{refused_so, not_refused}
use Rattle.cube_core.proofs.ApplyLemmas.{at_index, node_expandable}
use Rattle.cube_core.proofs.log.Log.expand.Goals as goal

pub returns-in-Some-clause-answer : goal.returns-in-Some-clause-answer
returns-in-Some-clause-answer g c =
    let inside = c.self.inside in
    let log = log_of inside.protocol inside.budget inside.nodes.items inside.events.items inside.mark in
    subst (λ l. Answers g.M.PreImages.pieces l c.args.node c.in-Some.outcome l) c.self.view_is
    (refused_so g.M.PreImages.pieces log c.args.node c.in-Some.outcome
    (subst (λ ns. refusal inside.mark inside.budget (node_at ns c.args.node) ≡ Some c.in-Some.outcome) c.as_slice.ensures.value (sym c.refused.ensures ∙ c.in-Some.is)))

pub judge-requires-clause-fit : goal.judge-requires-clause-fit
judge-requires-clause-fit g c =
    let m = g.M.PreImages in
    let inside = c.self.inside in
    let nodes = inside.nodes.items in
    let log = log_of inside.protocol inside.budget nodes inside.events.items inside.mark in
    let free : refusal inside.mark inside.budget (node_at nodes c.args.node) ≡ None =
    subst (λ ns. refusal inside.mark inside.budget (node_at ns c.args.node) ≡ None) c.as_slice.ensures.value (sym c.refused.ensures ∙ c.in_default.is) in
    let below : c.args.node < length nodes = subst (λ l. c.args.node < length l.nodes) (sym c.self.view_is) c.requires.inside in
    subst (λ (x : Node). IsFit c.args.protocol.now widest_expanded greatest_expanded x.cube) (sym (at_index nodes c.args.node c.index.result.now below c.index.ensures))
    (subst (λ p. IsFit p widest_expanded greatest_expanded (node_at nodes c.args.node).cube) (ap (λ l. l.protocol) c.self.view_is ∙ sym c.requires.protocol)
    (node_expandable m.pieces m.possible m.fit log c.args.node c.self.invariant.legal below (not_refused inside.mark inside.budget (node_at nodes c.args.node) free)))
