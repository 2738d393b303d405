use Rattle.std.proofs.Common.{◌≡◌, ◌++◌}
use Rattle.std.specs.Prelude.{map}
use Rattle.std.specs.List.{range_with_len}
use Rattle.piece_steps.specs.Steps.{Choose}
use Rattle.pieces.specs.Jobs.{as_step}
use Rattle.pieces.proofs.steps.push_chooses.Given as goal

abbrev pub invariant-loop-i : goal.invariant-loop-i
invariant-loop-i l = map as_step l.steps.items ≡ map as_step l.fn.steps.items ++ map (λ i. Choose i) (range_with_len 0 l.i)
