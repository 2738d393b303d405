use Rattle.std.proofs.Common.{◌≡◌, ◌++◌}
use Rattle.std.specs.Prelude.{map}
use Rattle.std.specs.List.{range_with_len}
use Rattle.piece_steps.specs.Steps.{Late}
use Rattle.pieces.specs.Jobs.{as_step}
use Rattle.pieces.proofs.steps.push_lates.Given as goal

abbrev pub invariant-loop-j : goal.invariant-loop-j
invariant-loop-j l = map as_step l.steps.items ≡ map as_step l.fn.steps.items ++ map (λ j. Late j) (range_with_len 0 l.j)
