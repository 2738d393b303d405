use Rattle.std.proofs.Common.{◌≡◌, ◌++◌, take}
use Rattle.text_lines.specs.Line.{text_of}
use Rattle.trace_text.specs.Text.{array_lines}
use Rattle.trace_text.proofs.writer.push_arrays.Given as goal

abbrev pub invariant-loop-array : goal.invariant-loop-array
invariant-loop-array l = l.out.items ≡ l.fn.out.items ++ text_of (array_lines l.protocol 0 (take l.array l.start.arrays))
