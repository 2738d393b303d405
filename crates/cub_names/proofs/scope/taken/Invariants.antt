use Rattle.std.proofs.Common.{◌≡◌, ◌++◌, drop, take, map, []}
use Rattle.cub_names.specs.Words.{word_of}
use Rattle.cub_names.specs.Scope.{taken_from}
use Rattle.cub_names.proofs.scope.taken.Given as goal

abbrev pub invariant-loop-at : goal.invariant-loop-at
invariant-loop-at l = l.found.items ++ taken_from l.names (map (word_of l.names.text) (take l.at l.leaves)) (drop l.at l.leaves) ≡ taken_from l.names [] l.leaves
