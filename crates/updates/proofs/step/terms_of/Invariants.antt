use Rattle.std.proofs.Common.{◌≡◌, take}
use Rattle.std.specs.Prelude.{map}
use Rattle.updates.proofs.step.terms_of.Given as goal

abbrev pub invariant-loop-choice : goal.invariant-loop-choice
invariant-loop-choice l = l.terms.items ≡ map (λ c. c.term) (take l.choice-index l.choices)
