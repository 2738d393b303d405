use Rattle.std.proofs.Common.{◌≡◌, take}
use Rattle.std.specs.List.{flat_map}
use Rattle.cub_names.specs.Lists.{array_of}
use Rattle.cub_names.proofs.lists.arrays_of.Given as goal

abbrev pub invariant-loop-decl : goal.invariant-loop-decl
invariant-loop-decl l = l.found.items ≡ flat_map array_of (take l.decl-index l.decls)
