use Rattle.std.proofs.Common.{◌≡◌, ◌+◌, drop, not}
use Rattle.std.specs.List.{prefix_len}
use Rattle.cube_text.specs.Form.{is_and}
use Rattle.cube_text.proofs.parts.first_and.Given as goal

abbrev pub invariant-loop-at : goal.invariant-loop-at
invariant-loop-at l = l.at + prefix_len (λ w. not (is_and w.now)) (drop l.at l.words) ≡ prefix_len (λ w. not (is_and w.now)) l.words
