use Rattle.std.proofs.Common.{◌≡◌, map, take}
use Rattle.cub_names.specs.Words.{word_of}
use Rattle.cub_names.proofs.lists.words_of.Given as goal

abbrev pub invariant-loop-leaf : goal.invariant-loop-leaf
invariant-loop-leaf l = l.words.items ≡ map (word_of l.text) (take l.leaf-index l.leaves)
