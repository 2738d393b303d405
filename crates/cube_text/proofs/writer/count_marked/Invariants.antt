use Rattle.std.proofs.Common.{◌≡◌, length, take}
use Rattle.cube_text.specs.Text.{marked}
use Rattle.cube_text.proofs.writer.count_marked.Given as goal

abbrev pub invariant-loop-number : goal.invariant-loop-number
invariant-loop-number l = l.count ≡ length (marked l.mask 0 (take l.number l.names))
