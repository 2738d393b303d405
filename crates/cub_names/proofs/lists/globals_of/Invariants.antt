use Rattle.std.proofs.Common.{◌≡◌, take}
use Rattle.std.specs.List.{flat_map}
use Rattle.cub_names.specs.Lists.{global_of}
use Rattle.cub_names.proofs.lists.globals_of.Given as goal

abbrev pub invariant-loop-decl : goal.invariant-loop-decl
invariant-loop-decl l = l.found.items ≡ flat_map global_of (take l.decl-index l.decls)
