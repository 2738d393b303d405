use Rattle.std.proofs.Common.{◌≡◌, map, take}
use Rattle.cub_proto.proofs.distinct.sort_names.Given as goal

abbrev pub invariant-loop-sort : goal.invariant-loop-sort
invariant-loop-sort l = map (λ name. name.now) l.names.items ≡ map (λ d. d.name) (take l.sort-index l.sorts)
