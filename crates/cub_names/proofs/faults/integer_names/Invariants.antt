use Rattle.std.proofs.Common.{◌≡◌, ℕ, List, take, map, filter, not, drop}
use Rattle.std.specs.List.{flat_map}
use Rattle.cub_names.specs.Words.{word_of, may_declare}
use Rattle.cub_names.specs.Declarations.{forbidden, uncounted, unknown_sorts, process_sorts, integer_names, typed_name}
use Rattle.cub_names.proofs.faults.integer_names.Given as goal

abbrev pub invariant-loop-typed : goal.invariant-loop-typed
invariant-loop-typed l = l.found.items ≡ integer_names l.text l.types (take l.typed-index l.ds)
