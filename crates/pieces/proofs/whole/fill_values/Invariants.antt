use Rattle.std.proofs.Common.{◌≡◌, take}
use Rattle.std.specs.Prelude.{map}
use Rattle.updates.specs.Chosen.{taken_value}
use Rattle.pieces.proofs.whole.fill_values.Given as goal

abbrev pub invariant-loop-choice : goal.invariant-loop-choice
invariant-loop-choice l = l.values.items ≡ map (taken_value l.updates l.params) (take l.choice-index l.choices)
