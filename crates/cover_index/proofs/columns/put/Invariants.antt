use Rattle.std.proofs.Common.{◌≡◌, ℕ, ◌<◌, ◌≤◌}
use Rattle.std.specs.Prelude.{length}
use Rattle.cub_proto.specs.Truth.{has_bit}
use Rattle.cover_index.specs.Columns.{column}
use Rattle.cover_index.proofs.columns.put.Given as goal

-- the bit stands in the words so far, whose other bits are as they were; the words from there on are as they were
abbrev pub invariant-loop-b : goal.invariant-loop-b
invariant-loop-b l = record {
  all : length l.columns.items ≡ 64;
  own : (k : ℕ) → k < l.b → has_bit (column l.columns.items k) l.at ≡ has_bit l.word k;
  others : (k i : ℕ) → k < l.b → i < l.at → has_bit (column l.columns.items k) i ≡ has_bit (column l.fn.columns.items k) i;
  rest : (k : ℕ) → l.b ≤ k → column l.columns.items k ≡ column l.fn.columns.items k;
}
