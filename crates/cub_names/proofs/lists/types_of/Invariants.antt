use Rattle.std.proofs.Common.{◌≡◌, take}
use Rattle.std.specs.List.{flat_map}
use Rattle.cub_names.specs.Lists.{type_name}
use Rattle.cub_names.proofs.lists.types_of.Given as goal

abbrev pub invariant-loop-decl : goal.invariant-loop-decl
invariant-loop-decl l = l.found.items ≡ flat_map type_name (take l.decl-index l.decls)
