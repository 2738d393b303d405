use Rattle.std.proofs.Common.{◌≡◌, ◌++◌, ℕ, List, map, take, drop, bytes_eq}
use Rattle.std.specs.List.{list_any}
use Rattle.cub_names.specs.Seen.{has_name}
use Rattle.cub_names.specs.Words.{word_of}
use Rattle.cub_names.specs.Lists.{repeated}
use Rattle.cub_names.proofs.repeats.repeated.Given as goal

-- what is found and what is left to find are all; the set has the words so far
abbrev pub invariant-loop-leaf : goal.invariant-loop-leaf
invariant-loop-leaf l = record {
  found : l.found.items ++ repeated l.text (map (λ name. name.now) l.taken ++ map (word_of l.text) (take l.leaf-index l.leaves)) (drop l.leaf-index l.leaves)
      ≡ repeated l.text (map (λ name. name.now) l.taken) l.leaves;
  seen : (q : List ℕ) → has_name l.seen q ≡ list_any (bytes_eq q) (map (λ name. name.now) l.taken ++ map (word_of l.text) (take l.leaf-index l.leaves));
}
