use Rattle.std.proofs.Common.{◌≡◌, ◌++◌}
use Rattle.std.specs.Prelude.{map}
use Rattle.std.specs.List.{range_with_len}
use Rattle.piece_steps.specs.Steps.{Other}
use Rattle.pieces.specs.Jobs.{as_step}
use Rattle.pieces.proofs.steps.push_others.Given as goal

abbrev pub invariant-loop-q : goal.invariant-loop-q
invariant-loop-q l = map as_step l.steps.items ≡ map as_step l.fn.steps.items ++ map (λ q. Other q) (range_with_len 0 l.q)
