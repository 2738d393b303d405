use Rattle.std.proofs.Common.{◌≡◌, ◌++◌}
use Rattle.std.specs.Prelude.{map, replicate}
use Rattle.piece_steps.specs.Steps.{Param}
use Rattle.pieces.specs.Jobs.{as_step}
use Rattle.pieces.proofs.steps.push_params.Given as goal

abbrev pub invariant-loop-parameter : goal.invariant-loop-parameter
invariant-loop-parameter l = map as_step l.steps.items ≡ map as_step l.fn.steps.items ++ replicate l._parameter Param
