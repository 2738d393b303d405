use Rattle.std.proofs.Common.{◌≡◌, take}
use Rattle.std.specs.Prelude.{All}
use Rattle.log_form.specs.Pieces.{IsAskable}
use Rattle.log_steps.proofs.RootLemmas.{AreRootsOf}
use Rattle.log_steps.proofs.roots.consistent_goals.Given as goal

abbrev pub invariant-loop-goal : goal.invariant-loop-goal
invariant-loop-goal g l = record {
  made : g.S.MadeFor.made_for l.scratch l.protocol;
  count : l.number ≡ l.goal-index;
  roots : AreRootsOf l.protocol (take l.goal-index l.protocol.goals) l.list;
  fit : All (λ x. IsAskable l.protocol x.cube) l.list;
}
