use Rattle.std.proofs.Common.{◌≡◌, ◌∙◌, List, length, Some, refl, sym, ap, subst, arith}
use Rattle.std.specs.Prelude.{slice_get}
use Rattle.std.proofs.lemmas.Bool.{true≢false}
use Rattle.cub_proto.specs.declared.protocol.Goal.{Goal}
use Rattle.cert_check.specs.declared.keys.Key.{Key}
use Rattle.cert_check.specs.Obligations.{GoalNamed, IsOwed}
use Rattle.cert_check.proofs.Owing.{get_at, hold_more, goals_end}
use Rattle.cert_check.proofs.Walking.{get_inside, come_skip}
use Rattle.cert_check.proofs.goals.first_unnamed.Goals as goal

pub goal_named-requires-clause-its : goal.goal_named-requires-clause-its
goal_named-requires-clause-its c =
    subst (λ (xs : List Goal). slice_get xs c.loop-n.n ≡ Some c.index-goals-n.result) c.as_slice-goals.ensures (get_at c.as_slice-goals.result.now c.loop-n.n c.index-goals-n.result c.index-goals-n.result (omega arith) (sym c.index-goals-n.is))

pub returns-then-not-goal_named-clause-first : goal.returns-then-not-goal_named-clause-first
returns-then-not-goal_named-clause-first c = record { before = c.loop-n.invariant.hold; fails = λ named. true≢false (sym (c.goal_named.ensures.exact.1 named) ∙ c.if-not-goal_named.true) }

pub loop-n-preserved : goal.loop-n-preserved
loop-n-preserved c = record {
  made = c.goal_named.ensures.made;
  come = c.goal_named.ensures.come;
  hold = hold_more (GoalNamed c.args.protocol.now c.args.cubes.now c.args.lines.now) c.loop-n.n c.loop-n.invariant.hold (c.goal_named.ensures.exact.0 c.if-not-goal_named.false);
}

pub returns-clause-come : goal.returns-clause-come
returns-clause-come c e =
    let size : length c.as_slice-goals.result.now ≡ length c.args.protocol.now.goals = ap (λ (xs : List Goal). length xs) c.as_slice-goals.ensures in
    come_skip (IsOwed c.args.protocol.now c.args.cubes.now) c.args.lines.now (Key.Goal c.loop-n.n) (Key.Piece 0 0) c.loop-n.cursor c.loop-n.invariant.come refl
    (goals_end c.args.protocol.now c.args.cubes.now c.loop-n.n (omega (arith, size)))

pub returns-clause-first : goal.returns-clause-first
returns-clause-first c m g has =
    let inside = get_inside c.args.protocol.now.goals m g has.0 in
    let size : length c.as_slice-goals.result.now ≡ length c.args.protocol.now.goals = ap (λ (xs : List Goal). length xs) c.as_slice-goals.ensures in
    c.loop-n.invariant.hold m (omega (arith, size, inside)) g has
