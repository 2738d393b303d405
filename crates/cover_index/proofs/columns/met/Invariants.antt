use Rattle.std.proofs.Common.{ℕ, ◌<◌}
use Rattle.std.specs.Prelude.{IsTrue}
use Rattle.cub_proto.specs.Truth.{has_bit}
use Rattle.cover_index.specs.Columns.{column}
use Rattle.cover_index.proofs.columns.met.Given as goal

-- each bit so far stands in one of the words so far, and in that of the other list
abbrev pub invariant-loop-b : goal.invariant-loop-b
invariant-loop-b l = record {
  met : (i : ℕ) → IsTrue (has_bit l.cubes i) → (k : ℕ) × (k < l.b) × IsTrue (has_bit (column l.columns k) i) × IsTrue (has_bit (column l.filled k) i);
}
