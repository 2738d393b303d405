use Rattle.std.proofs.Common.{◌≡◌, ℕ, ◌<◌, take}
use Rattle.std.specs.List.{list_any}
use Rattle.cub_proto.specs.Truth.{has_bit}
use Rattle.subsume.specs.Marks.{marks_joint}
use Rattle.subsume.proofs.ties.joint_bits.Given as goal

abbrev pub invariant-loop-lit : goal.invariant-loop-lit
invariant-loop-lit l = (n : ℕ) → n < 64 → has_bit l.word n ≡ list_any (λ x. list_any (marks_joint n x) l.lits) (take l.lit-index l.lits)
