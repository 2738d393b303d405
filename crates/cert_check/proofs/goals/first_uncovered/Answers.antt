use Rattle.std.proofs.Common.{◌≡◌, ◌∙◌, List, length, Some, sym, ap, subst, arith}
use Rattle.std.specs.Prelude.{slice_get}
use Rattle.std.proofs.lemmas.Bool.{true≢false}
use Rattle.cub_proto.specs.declared.protocol.Goal.{Goal}
use Rattle.cert_check.specs.Obligations.{GoalCovered}
use Rattle.cert_check.proofs.Owing.{get_at, hold_more}
use Rattle.cert_check.proofs.Walking.{get_inside}
use Rattle.cert_check.proofs.goals.first_uncovered.Goals as goal

pub goal_covered-requires-clause-its : goal.goal_covered-requires-clause-its
goal_covered-requires-clause-its c =
    subst (λ (xs : List Goal). slice_get xs c.loop-n.n ≡ Some c.index-goals-n.result) c.as_slice-goals.ensures (get_at c.as_slice-goals.result.now c.loop-n.n c.index-goals-n.result c.index-goals-n.result (omega arith) (sym c.index-goals-n.is))

pub returns-then-not-goal_covered-clause-first : goal.returns-then-not-goal_covered-clause-first
returns-then-not-goal_covered-clause-first c = record { before = c.loop-n.invariant.hold; fails = λ covered. true≢false (sym (c.goal_covered.ensures.exact.1 covered) ∙ c.if-not-goal_covered.true) }

pub loop-n-preserved : goal.loop-n-preserved
loop-n-preserved c = record {
  made = c.goal_covered.ensures.made;
  hold = hold_more (GoalCovered c.args.protocol.now c.args.cubes.now) c.loop-n.n c.loop-n.invariant.hold (c.goal_covered.ensures.exact.0 c.if-not-goal_covered.false);
}

pub returns-clause-first : goal.returns-clause-first
returns-clause-first c m g has =
    let inside = get_inside c.args.protocol.now.goals m g has.0 in
    let size : length c.as_slice-goals.result.now ≡ length c.args.protocol.now.goals = ap (λ (xs : List Goal). length xs) c.as_slice-goals.ensures in
    c.loop-n.invariant.hold m (omega (arith, size, inside)) g has
