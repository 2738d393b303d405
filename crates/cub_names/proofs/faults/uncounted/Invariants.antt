use Rattle.std.proofs.Common.{◌≡◌, ℕ, List, take, map, filter, not, drop}
use Rattle.std.specs.List.{flat_map}
use Rattle.cub_names.specs.Words.{word_of, may_declare}
use Rattle.cub_names.specs.Declarations.{forbidden, uncounted, unknown_sorts, process_sorts, integer_names, typed_name}
use Rattle.cub_names.proofs.faults.uncounted.Given as goal

abbrev pub invariant-loop-decl : goal.invariant-loop-decl
invariant-loop-decl l = l.found.items ≡ flat_map uncounted (take l.decl-index l.decls)
