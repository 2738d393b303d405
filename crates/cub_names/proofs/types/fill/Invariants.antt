use Rattle.std.proofs.Common.{◌≡◌, ◌+◌, ◌≤◌, ℕ, List, length, drop, None}
use Rattle.cub_names.specs.Seen.{value_in}
use Rattle.cub_names.specs.Meaning.{number_from, or_else}
use Rattle.cub_names.proofs.types.fill.Given as goal

abbrev pub decreases-loop-left : goal.decreases-loop-left
decreases-loop-left l = l.left

-- the map has the words from that place on
abbrev pub invariant-loop-left : goal.invariant-loop-left
invariant-loop-left l = record {
  within : l.left ≤ length l.words;
  has : (q : List ℕ) → value_in l.numbers q ≡ or_else (number_from (l.left + 1) (drop l.left l.words) q) None;
}
