use Rattle.std.proofs.Common.{◌≡◌, ℕ}
use Rattle.std.specs.Prelude.{length, IsTrue}
use Rattle.cub_proto.specs.Truth.{has_bit}
use Rattle.cover_index.specs.Columns.{column}
use Rattle.cover_index.proofs.columns.filled.Given as goal

abbrev pub invariant-loop-b : goal.invariant-loop-b
invariant-loop-b l = record {
  all : length l.words ≡ 64;
  only : (k i : ℕ) → IsTrue (has_bit (column l.words k) i) → IsTrue (has_bit l.word k);
}
