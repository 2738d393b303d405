use Rattle.std.proofs.Common.{◌≡◌, ℕ, ◌<◌, ◌≤◌, ◌+◌, ◌∙◌, ℤ, pos, ◌-ℤ◌, ◌≤ℤ◌, List, length, map, ap, subst, sym, arith, true, false, Some, None, Contains}
use Rattle.std.proofs.lemmas.Int.{ints}
use Rattle.std.specs.List.{IsDistinct}
use Rattle.cub_proto.specs.declared.literal.Term.{Term}
use Rattle.cub_proto.specs.declared.literal.ISide.{ISide}
use Rattle.cub_proto.specs.declared.literal.ISide.TheVariants.{Zero, At}
use Rattle.cub_proto.specs.declared.literal.Lit.{Lit}
use Rattle.diff_core.specs.declared.constraint.Constraint.{Constraint}
use Rattle.diff_core.specs.Closing.{Closing}
use Rattle.diff_core.specs.Constraints as core
use Rattle.diff_core.specs.Table.{IsClosureOf as IsTableOf}
use Rattle.diff_close.specs.Literals.{IsLeastBound, IsLeastSum, IsChosen, IsAmong}
use Rattle.diff_close.specs.Names.{term_eq, side_eq, node_of, constraint_of}
use Rattle.diff_close.specs.Scratch.{Scratch, IsClosureOf}
use Rattle.diff_close.proofs.Translate.{bound_up}
use Rattle.diff_close.proofs.Ways.{side_eq_true, past_all, within_all, bound_same, bound_past_left, bound_past_right, least_up, least_other}
use Rattle.diff_close.proofs.Closes.{closure_has}
use Rattle.diff_close.proofs.scratch.DiffScratch.value.Goals as goal
use mir.Val.{SFits}
use mir.Syntax.{w64}

pub returns-then-here-terms-clause-chosen : goal.returns-then-here-terms-clause-chosen
returns-then-here-terms-clause-chosen c lits is =
    let s : Scratch = c.args.self.now in
    let terms_are : c.as_slice-terms.result.now ≡ s.names = c.as_slice-terms.ensures.value ∙ ap (λ (x : Scratch). x.names) c.self.view_is in
    let cs : List Constraint = map (constraint_of s.names) lits in
    let table : IsTableOf cs c.self.inside.differences.table = subst (λ (k : Closing). IsTableOf cs k.table) (sym (ap (λ (x : Scratch). x.closing) c.self.view_is)) is.table in
    let past : length s.names < node_of s.names c.args.a = subst (λ (m : List Term). length m < node_of m c.args.a) terms_are (omega (arith, c.if-here-terms.true, c.node-here.ensures)) in
    let distinct : IsDistinct term_eq s.names = subst (λ (m : List Term). IsDistinct term_eq m) (ap (λ (x : Scratch). x.names) c.self.view_is) c.self.invariant.distinct in
    let fits : core.Fits (length s.names + 1) cs = subst (λ (n : ℕ). core.Fits n cs) is.nodes is.table.inside in
    let zero_fits : SFits w64 c.least_sum-zero.result = record { sfits = c.least_sum-zero.type_inv } in
    let least_zero : IsLeastSum lits Zero c.least_sum-zero.result = least_up s.names lits is.named distinct fits Zero tt c.least_sum-zero.result (c.least_sum-zero.ensures.least cs table) in
    let one : (t : Term) × (c.args.a ≡ At t) × (Contains s.names t → ⊥) = past_all s.names c.args.a past in
    record {
      here = pos 0;
      zero = c.least_sum-zero.result;
      least_here = subst (λ (x : ISide). IsLeastSum lits x (pos 0)) (sym one.1) (least_other s.names lits is.named one.0 one.2);
      least_zero = least_zero;
      difference = omega (arith, ints, c.least_sum-zero.ensures.at_most, c.least_sum-zero.ensures.at_least);
    }

pub returns-clause-chosen : goal.returns-clause-chosen
returns-clause-chosen c lits is =
    let s : Scratch = c.args.self.now in
    let terms_are : c.as_slice-terms.result.now ≡ s.names = c.as_slice-terms.ensures.value ∙ ap (λ (x : Scratch). x.names) c.self.view_is in
    let cs : List Constraint = map (constraint_of s.names) lits in
    let table : IsTableOf cs c.self.inside.differences.table = subst (λ (k : Closing). IsTableOf cs k.table) (sym (ap (λ (x : Scratch). x.closing) c.self.view_is)) is.table in
    let among : IsAmong s.names c.args.a = within_all s.names c.args.a (subst (λ (m : List Term). node_of m c.args.a ≤ length m) terms_are (omega (arith, c.if-here-terms.false, c.node-here.ensures))) in
    let among_node : c.node-here.result ≡ node_of s.names c.args.a = c.node-here.ensures ∙ ap (λ (m : List Term). node_of m c.args.a) terms_are in
    let distinct : IsDistinct term_eq s.names = subst (λ (m : List Term). IsDistinct term_eq m) (ap (λ (x : Scratch). x.names) c.self.view_is) c.self.invariant.distinct in
    let fits : core.Fits (length s.names + 1) cs = subst (λ (n : ℕ). core.Fits n cs) is.nodes is.table.inside in
    let zero_fits : SFits w64 c.least_sum-zero.result = record { sfits = c.least_sum-zero.type_inv } in
    let least_zero : IsLeastSum lits Zero c.least_sum-zero.result = least_up s.names lits is.named distinct fits Zero tt c.least_sum-zero.result (c.least_sum-zero.ensures.least cs table) in
    let here_fits : SFits w64 c.least_sum.result = record { sfits = c.least_sum.type_inv } in
    let at_node : core.IsLeastSum cs (node_of s.names c.args.a) c.least_sum.result = subst (λ (x : ℕ). core.IsLeastSum cs x c.least_sum.result) among_node (c.least_sum.ensures.least cs table) in
    record {
      here = c.least_sum.result;
      zero = c.least_sum-zero.result;
      least_here = least_up s.names lits is.named distinct fits c.args.a among c.least_sum.result at_node;
      least_zero = least_zero;
      difference = omega (arith, ints, c.least_sum-zero.ensures.at_most, c.least_sum-zero.ensures.at_least, c.least_sum.ensures.at_most, c.least_sum.ensures.at_least);
    }
