use Rattle.std.proofs.Common.{◌≡◌, take, map, replicate}
use Rattle.cub_proto.specs.First.{first_value}
use Rattle.cub_proto.proofs.state.first_arrays.Given as goal

abbrev pub invariant-loop-decl : goal.invariant-loop-decl
invariant-loop-decl l = (l.arrays.items ≡ map (λ d. replicate l.processes (first_value d.sort)) (take l.decl-index l.decl-items)) × (l.decl-items ≡ l.decls)
