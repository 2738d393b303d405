use Rattle.std.proofs.Common.{◌≡◌, ◌+◌, drop, not, bytes_eq}
use Rattle.std.specs.List.{prefix_len}
use Rattle.text_lines.proofs.names.first_name.Given as goal

abbrev pub invariant-loop-at : goal.invariant-loop-at
invariant-loop-at l = l.at + prefix_len (λ x. not (bytes_eq x l.name)) (drop l.at l.names) ≡ prefix_len (λ x. not (bytes_eq x l.name)) l.names
