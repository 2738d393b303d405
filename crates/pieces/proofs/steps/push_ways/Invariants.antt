use Rattle.std.proofs.Common.{◌≡◌, ◌++◌, take}
use Rattle.std.specs.Prelude.{map}
use Rattle.std.specs.List.{flat_map}
use Rattle.cub_base.specs.Numbered.{map_from}
use Rattle.piece_steps.specs.Steps.{way_steps}
use Rattle.pieces.specs.Jobs.{as_step}
use Rattle.pieces.proofs.steps.push_ways.Given as goal

abbrev pub invariant-loop-i : goal.invariant-loop-i
invariant-loop-i l = map as_step l.steps.items ≡ map as_step l.fn.steps.items ++ flat_map (λ xs. xs) (map_from (way_steps l.transition) 0 (take l.i l.terms))
