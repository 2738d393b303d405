use Rattle.std.proofs.Common.{◌≡◌, map, take}
use Rattle.cub_names.specs.Declarations.{declared_as}
use Rattle.cub_names.proofs.values.decls_of.Given as goal

abbrev pub invariant-loop-typed : goal.invariant-loop-typed
invariant-loop-typed l = l.decls ≡ map (declared_as l.text l.types) (take l.typed-index l.ds)
