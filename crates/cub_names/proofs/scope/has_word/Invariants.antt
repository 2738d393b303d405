use Rattle.std.proofs.Common.{◌≡◌, drop, map, bytes_eq}
use Rattle.std.specs.List.{list_any}
use Rattle.cub_names.specs.Words.{word_of}
use Rattle.cub_names.proofs.scope.has_word.Given as goal

abbrev pub invariant-loop-leaf : goal.invariant-loop-leaf
invariant-loop-leaf l = list_any (bytes_eq l.word_looked_for) (map (word_of l.text) (drop l.leaf-index l.leaves)) ≡ list_any (bytes_eq l.word_looked_for) (map (word_of l.text) l.leaves)
