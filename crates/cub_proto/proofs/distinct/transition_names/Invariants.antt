use Rattle.std.proofs.Common.{◌≡◌, map, take}
use Rattle.cub_proto.proofs.distinct.transition_names.Given as goal

abbrev pub invariant-loop-transition : goal.invariant-loop-transition
invariant-loop-transition l = map (λ name. name.now) l.names.items ≡ map (λ t. t.name) (take l.transition-index l.transitions)
