use Rattle.std.proofs.Common.{◌≡◌, ℕ, ◌<◌, ◌≤◌, ◌+◌, ◌∙◌, ℤ, pos, ◌-ℤ◌, ◌≤ℤ◌, List, length, map, ap, subst, sym, arith, true, false, Some, None, Contains}
use Rattle.std.proofs.lemmas.Int.{ints}
use Rattle.std.specs.List.{IsDistinct}
use Rattle.cub_proto.specs.declared.literal.Term.{Term}
use Rattle.cub_proto.specs.declared.literal.ISide.{ISide}
use Rattle.cub_proto.specs.declared.literal.ISide.TheVariants.{Zero, At}
use Rattle.cub_proto.specs.declared.literal.Lit.{Lit}
use Rattle.diff_core.specs.declared.constraint.Constraint.{Constraint}
use Rattle.diff_core.specs.Closing.{Closing}
use Rattle.diff_core.specs.Constraints as core
use Rattle.diff_core.specs.Table.{IsClosureOf as IsTableOf}
use Rattle.diff_close.specs.Literals.{IsLeastBound, IsLeastSum, IsChosen, IsAmong}
use Rattle.diff_close.specs.Names.{term_eq, side_eq, node_of, constraint_of}
use Rattle.diff_close.specs.Scratch.{Scratch, IsClosureOf}
use Rattle.diff_close.proofs.Translate.{bound_up}
use Rattle.diff_close.proofs.Ways.{side_eq_true, past_all, within_all, bound_same, bound_past_left, bound_past_right, least_up, least_other}
use Rattle.diff_close.proofs.Closes.{closure_has}
use Rattle.diff_close.proofs.scratch.DiffScratch.bound.Goals as goal

pub returns-then-is_same_side : goal.returns-then-is_same_side
returns-then-is_same_side c lits is =
    let same : c.args.a ≡ c.args.b = side_eq_true c.args.a c.args.b (sym c.is_same_side.ensures ∙ c.if-is_same_side.true) in
    subst (λ (x : ISide). IsLeastBound lits c.args.a x (Some (pos 0))) same (bound_same lits c.args.a (closure_has lits c.args.self.now is))

pub returns-then-first-terms : goal.returns-then-first-terms
returns-then-first-terms c lits is =
    let s : Scratch = c.args.self.now in
    let terms_are : c.as_slice-terms.result.now ≡ s.names = c.as_slice-terms.ensures.value ∙ ap (λ (x : Scratch). x.names) c.self.view_is in
    let past : length s.names < node_of s.names c.args.a = subst (λ (m : List Term). length m < node_of m c.args.a) terms_are (omega (arith, c.if-first-terms.true, c.node-first.ensures)) in
    bound_past_left s.names lits is.named (closure_has lits s is) c.args.a c.args.b (sym c.is_same_side.ensures ∙ c.if-is_same_side.false) past

pub returns-then-second-terms : goal.returns-then-second-terms
returns-then-second-terms c lits is =
    let s : Scratch = c.args.self.now in
    let terms_are : c.as_slice-terms.result.now ≡ s.names = c.as_slice-terms.ensures.value ∙ ap (λ (x : Scratch). x.names) c.self.view_is in
    let past : length s.names < node_of s.names c.args.b = subst (λ (m : List Term). length m < node_of m c.args.b) terms_are (omega (arith, c.if-second-terms.true, c.node-second.ensures)) in
    bound_past_right s.names lits is.named (closure_has lits s is) c.args.a c.args.b (sym c.is_same_side.ensures ∙ c.if-is_same_side.false) past

pub returns : goal.returns
returns c lits is =
    let s : Scratch = c.args.self.now in
    let terms_are : c.as_slice-terms.result.now ≡ s.names = c.as_slice-terms.ensures.value ∙ ap (λ (x : Scratch). x.names) c.self.view_is in
    let cs : List Constraint = map (constraint_of s.names) lits in
    let table : IsTableOf cs c.self.inside.differences.table = subst (λ (k : Closing). IsTableOf cs k.table) (sym (ap (λ (x : Scratch). x.closing) c.self.view_is)) is.table in
    let first : IsAmong s.names c.args.a = within_all s.names c.args.a (subst (λ (m : List Term). node_of m c.args.a ≤ length m) terms_are (omega (arith, c.if-first-terms.false, c.node-first.ensures))) in
    let first_node : c.node-first.result ≡ node_of s.names c.args.a = c.node-first.ensures ∙ ap (λ (m : List Term). node_of m c.args.a) terms_are in
    let second : IsAmong s.names c.args.b = within_all s.names c.args.b (subst (λ (m : List Term). node_of m c.args.b ≤ length m) terms_are (omega (arith, c.if-second-terms.false, c.node-second.ensures))) in
    let second_node : c.node-second.result ≡ node_of s.names c.args.b = c.node-second.ensures ∙ ap (λ (m : List Term). node_of m c.args.b) terms_are in
    let found : core.IsLeastBound cs (node_of s.names c.args.a) (node_of s.names c.args.b) c.bound.result =
    subst (λ (x : ℕ). core.IsLeastBound cs x (node_of s.names c.args.b) c.bound.result) first_node (subst (λ (y : ℕ). core.IsLeastBound cs c.node-first.result y c.bound.result) second_node (c.bound.ensures cs table)) in
    bound_up s.names lits is.named c.args.a c.args.b first second c.bound.result found
