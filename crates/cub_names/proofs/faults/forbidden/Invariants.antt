use Rattle.std.proofs.Common.{◌≡◌, ℕ, List, take, map, filter, not, drop}
use Rattle.std.specs.List.{flat_map}
use Rattle.cub_names.specs.Words.{word_of, may_declare}
use Rattle.cub_names.specs.Declarations.{forbidden, uncounted, unknown_sorts, process_sorts, integer_names, typed_name}
use Rattle.cub_names.proofs.faults.forbidden.Given as goal

abbrev pub invariant-loop-leaf : goal.invariant-loop-leaf
invariant-loop-leaf l = l.found.items ≡ forbidden l.text (take l.leaf-index l.leaves)
