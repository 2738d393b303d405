use Rattle.std.proofs.Common.{◌≡◌, map, take}
use Rattle.std.specs.List.{flat_map}
use Rattle.cub_proto.proofs.distinct.all_cons.Given as goal

abbrev pub invariant-loop-sort : goal.invariant-loop-sort
invariant-loop-sort l = map (λ name. name.now) l.names.items ≡ flat_map (λ d. d.cons) (take l.sort-index l.sorts)
