use Rattle.std.proofs.Common.{◌≡◌, subst, sym}
use Rattle.std.specs.Prelude.{IfOk, OnOk}
use Rattle.cub_names.specs.Checked.{first_of_all}
use Rattle.cub_types.specs.Bodies.{goals_at}
use Rattle.cub_types.proofs.bodies.goals_at.Goals as goal

pub returns-in-Invariant-clause-goals : goal.returns-in-Invariant-clause-goals
returns-in-Invariant-clause-goals c =
    subst (λ r. IfOk c.goals_of-in-Invariant.result (λ x. x.goals ≡ (goals_at c.args.names.now c.args.total r).value)) (sym c.in-Invariant.is) c.goals_of-in-Invariant.ensures.goals

pub returns-in-Invariant-clause-first : goal.returns-in-Invariant-clause-first
returns-in-Invariant-clause-first c =
    subst (λ r. OnOk c.goals_of-in-Invariant.result (c.goals_of-in-Invariant.new.first ≡ first_of_all c.args.first.now (goals_at c.args.names.now c.args.total r).faults)) (sym c.in-Invariant.is) c.goals_of-in-Invariant.ensures.first
