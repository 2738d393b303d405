use Rattle.std.proofs.Common.{◌≡◌, map, take}
use Rattle.cub_names.specs.Words.{word_of}
use Rattle.cub_names.proofs.values.cons_of.Given as goal

abbrev pub invariant-loop-leaf : goal.invariant-loop-leaf
invariant-loop-leaf l = l.cons ≡ map (word_of l.text) (take l.leaf-index l.leaves)
