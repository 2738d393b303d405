use Rattle.std.proofs.Common.{◌≡◌, ◌+◌, drop, not, bytes_eq}
use Rattle.std.specs.List.{prefix_len}
use Rattle.text_lines.proofs.names.first_decl.Given as goal

abbrev pub invariant-loop-at : goal.invariant-loop-at
invariant-loop-at l = l.at + prefix_len (λ d. not (bytes_eq d.name l.name)) (drop l.at l.decls) ≡ prefix_len (λ d. not (bytes_eq d.name l.name)) l.decls
