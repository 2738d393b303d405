use Rattle.std.proofs.Common.{List, sym, subst}
use Rattle.std.specs.Prelude.{IsTrue, ◌↔◌}
use Rattle.cub_proto.specs.declared.literal.Lit.{Lit}
use Rattle.cub_cube.specs.Cover.{IsCovered}
use Rattle.cub_cube.specs.Meaning.{IsConsistent}
use Rattle.theory_laws.specs.Fitting.{AreFitting}
use Rattle.cert_check.specs.Injections.{cube_of}
use Rattle.cert_check.proofs.Owing.{goal_fitting, get_contains, covered_goal, goal_covered}
use Rattle.cert_check.proofs.goals.goal_covered.Goals as goal

pub is_covered-requires-clause-fitting : goal.is_covered-requires-clause-fitting
is_covered-requires-clause-fitting c =
    subst (λ (xs : List Lit). AreFitting c.args.protocol.now c.args.goal.now.width xs) (sym c.as_slice.ensures) (goal_fitting c.args.protocol.now c.args.goal.now (get_contains c.args.protocol.now.goals c.args.n c.args.goal.now c.requires.its))

pub returns-clause-exact : goal.returns-clause-exact
returns-clause-exact c =
    let exact : IsTrue c.is_covered.result ↔ (IsConsistent c.args.protocol.now c.args.goal.now.width c.args.goal.now.lits → IsCovered c.args.protocol.now c.args.cubes.now (cube_of c.args.goal.now.width c.args.goal.now.lits)) =
    subst (λ (xs : List Lit). IsTrue c.is_covered.result ↔ (IsConsistent c.args.protocol.now c.args.goal.now.width xs → IsCovered c.args.protocol.now c.args.cubes.now (cube_of c.args.goal.now.width xs))) c.as_slice.ensures c.is_covered.ensures.exact in (
      (λ h. covered_goal c.args.protocol.now c.args.cubes.now c.args.n c.args.goal.now c.requires.its (exact.0 h)),
      (λ covered. exact.1 (goal_covered c.args.protocol.now c.args.cubes.now c.args.n c.args.goal.now c.requires.its covered)),
    )
