use Rattle.std.proofs.Common.{◌≡◌, ◌+◌, drop, not, bytes_eq}
use Rattle.std.specs.List.{prefix_len}
use Rattle.text_lines.proofs.names.first_transition.Given as goal

abbrev pub invariant-loop-at : goal.invariant-loop-at
invariant-loop-at l = l.at + prefix_len (λ t. not (bytes_eq t.name l.name)) (drop l.at l.transitions) ≡ prefix_len (λ t. not (bytes_eq t.name l.name)) l.transitions
