use Rattle.std.proofs.Common.{◌≡◌, take}
use Rattle.std.specs.List.{flat_map}
use Rattle.cub_types.specs.Typing.{transition_name}
use Rattle.cub_types.proofs.transitions.transition_names.Given as goal

abbrev pub invariant-loop-rest : goal.invariant-loop-rest
invariant-loop-rest l = l.found.items ≡ flat_map transition_name (take l.rest-index l.rests)
