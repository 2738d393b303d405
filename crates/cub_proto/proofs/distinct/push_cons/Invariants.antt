use Rattle.std.proofs.Common.{◌≡◌, ◌++◌, map, take}
use Rattle.cub_proto.proofs.distinct.push_cons.Given as goal

abbrev pub invariant-loop-name : goal.invariant-loop-name
invariant-loop-name l = (map (λ name. name.now) l.names.items ≡ map (λ name. name.now) l.fn.names.items ++ take l.name-index l.name-items) × (l.name-items ≡ l.sort.cons)
