use Rattle.std.proofs.Common.{◌≡◌, ℕ, ◌<◌, take}
use Rattle.std.specs.List.{list_any}
use Rattle.cub_proto.specs.Truth.{has_bit}
use Rattle.subsume.specs.Marks.{joined_by}
use Rattle.subsume.proofs.ties.joined_by_any.Given as goal

abbrev pub invariant-loop-lit : goal.invariant-loop-lit
invariant-loop-lit l = (n : ℕ) → n < 64 → has_bit l.word n ≡ list_any (joined_by n l.a l.p l.c) (take l.lit-index l.lits)
