use Rattle.std.proofs.Common.{◌≡◌, ◌++◌, map, take}
use Rattle.cub_proto.proofs.distinct.push_decls.Given as goal

abbrev pub invariant-loop-decl : goal.invariant-loop-decl
invariant-loop-decl l = map (λ name. name.now) l.names.items ≡ map (λ name. name.now) l.fn.names.items ++ map (λ d. d.name) (take l.decl-index l.decls)
