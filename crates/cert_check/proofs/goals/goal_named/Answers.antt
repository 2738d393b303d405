use Rattle.std.proofs.Common.{◌+◌, ◌∙◌, List, refl, sym, subst, arith}
use Rattle.std.specs.Prelude.{IsTrue, ◌↔◌}
use Rattle.std.proofs.lemmas.Bool.{true≢false}
use Rattle.cub_base.proofs.Bools.{is_less}
use Rattle.cub_proto.specs.declared.literal.Lit.{Lit}
use Rattle.cub_cube.specs.Meaning.{IsConsistent}
use Rattle.theory_laws.specs.Fitting.{AreFitting}
use Rattle.cert_check.specs.declared.keys.Key.{Key}
use Rattle.cert_check.specs.Injections.{cube_of}
use Rattle.cert_check.specs.Named.{IsNamed}
use Rattle.cert_check.specs.Obligations.{IsOwed}
use Rattle.cert_check.proofs.Owing.{goal_fitting, get_contains, goal_skip, goal_gap, named_goal, goal_named, idle_goal_covered}
use Rattle.cert_check.proofs.Walking.{come_next, come_skip}
use Rattle.cert_check.proofs.goals.goal_named.Goals as goal

pub load-requires-clause-fitting : goal.load-requires-clause-fitting
load-requires-clause-fitting c =
    subst (λ (xs : List Lit). AreFitting c.args.protocol.now c.args.goal.now.width xs) (sym c.as_slice-lits.ensures) (goal_fitting c.args.protocol.now c.args.goal.now (get_contains c.args.protocol.now.goals c.args.n c.args.goal.now c.requires.its))

pub returns-then-not-load-clause-come : goal.returns-then-not-load-clause-come
returns-then-not-load-clause-come c =
    let none : IsConsistent c.args.protocol.now c.args.goal.now.width c.args.goal.now.lits → ⊥ =
    subst (λ (xs : List Lit). IsConsistent c.args.protocol.now c.args.goal.now.width xs → ⊥) c.as_slice-lits.ensures (λ consistent. true≢false (sym (c.load.ensures.exact.1 consistent) ∙ c.if-not-load.true)) in
    come_skip (IsOwed c.args.protocol.now c.args.cubes.now) c.args.lines.now (Key.Goal c.args.n) (Key.Goal (c.args.n + 1)) c.args.cursor.now c.requires.come (is_less c.args.n (c.args.n + 1) (omega arith))
    (goal_skip c.args.protocol.now c.args.cubes.now c.args.n c.args.goal.now c.requires.its none)

pub returns-then-not-load-clause-exact : goal.returns-then-not-load-clause-exact
returns-then-not-load-clause-exact c =
    let none : IsConsistent c.args.protocol.now c.args.goal.now.width c.args.goal.now.lits → ⊥ =
    subst (λ (xs : List Lit). IsConsistent c.args.protocol.now c.args.goal.now.width xs → ⊥) c.as_slice-lits.ensures (λ consistent. true≢false (sym (c.load.ensures.exact.1 consistent) ∙ c.if-not-load.true)) in (
      (λ h g has. absurd (idle_goal_covered c.args.protocol.now c.args.cubes.now c.args.n c.args.goal.now c.requires.its none g has)),
      (λ h. refl),
    )

pub is_named-requires-clause-ready : goal.is_named-requires-clause-ready
is_named-requires-clause-ready c = record { made = c.load.ensures.made; loaded = c.load.ensures.loaded c.if-not-load.false }

pub is_named-requires-clause-owed : goal.is_named-requires-clause-owed
is_named-requires-clause-owed c =
    (c.args.goal.now, (c.requires.its, subst (λ (xs : List Lit). IsConsistent c.args.protocol.now c.args.goal.now.width xs) c.as_slice-lits.ensures (c.load.ensures.exact.0 c.if-not-load.false)))

pub returns-clause-come : goal.returns-clause-come
returns-clause-come c =
    come_next (IsOwed c.args.protocol.now c.args.cubes.now) c.args.lines.now (Key.Goal c.args.n) (Key.Goal (c.args.n + 1)) c.is_named.new.cursor c.is_named.ensures.taken (is_less c.args.n (c.args.n + 1) (omega arith))
    (goal_gap c.args.protocol.now c.args.cubes.now c.args.n)

pub returns-clause-exact : goal.returns-clause-exact
returns-clause-exact c =
    let exact : IsTrue c.is_named.result ↔ IsNamed c.args.protocol.now c.args.cubes.now c.args.lines.now (Key.Goal c.args.n) (cube_of c.args.goal.now.width c.args.goal.now.lits) =
    subst (λ (xs : List Lit). IsTrue c.is_named.result ↔ IsNamed c.args.protocol.now c.args.cubes.now c.args.lines.now (Key.Goal c.args.n) (cube_of c.args.goal.now.width xs)) c.as_slice-lits.ensures c.is_named.ensures.exact in
    let consistent : IsConsistent c.args.protocol.now c.args.goal.now.width c.args.goal.now.lits =
    subst (λ (xs : List Lit). IsConsistent c.args.protocol.now c.args.goal.now.width xs) c.as_slice-lits.ensures (c.load.ensures.exact.0 c.if-not-load.false) in (
      (λ h. named_goal c.args.protocol.now c.args.cubes.now c.args.n c.args.goal.now c.requires.its c.args.lines.now (exact.0 h)),
      (λ named. exact.1 (goal_named c.args.protocol.now c.args.cubes.now c.args.n c.args.goal.now c.requires.its c.args.lines.now consistent named)),
    )
