use Rattle.std.proofs.Common.{◌≡◌, ◌+◌, ◌==◌, drop, not}
use Rattle.std.specs.List.{prefix_len}
use Rattle.cube_text.proofs.parts.first_at.Given as goal

abbrev pub invariant-loop-at : goal.invariant-loop-at
invariant-loop-at l = l.at + prefix_len (λ b. not (b == l.kind)) (drop l.at l.bytes) ≡ prefix_len (λ b. not (b == l.kind)) l.bytes
