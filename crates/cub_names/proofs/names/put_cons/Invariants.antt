use Rattle.std.proofs.Common.{◌≡◌, ◌≤◌, ℕ, List, length, drop}
use Rattle.cub_names.specs.Seen.{value_in}
use Rattle.cub_names.specs.Meaning.{constructor_from, or_else}
use Rattle.cub_names.proofs.names.put_cons.Given as goal

abbrev pub decreases-loop-left : goal.decreases-loop-left
decreases-loop-left l = l.left

-- the map has those from that place on
abbrev pub invariant-loop-left : goal.invariant-loop-left
invariant-loop-left l = record {
  within : l.left ≤ length l.cons;
  has : (q : List ℕ) → value_in l.values q ≡ or_else (constructor_from l.sort l.left (drop l.left l.cons) q) (value_in l.fn.values q);
}
