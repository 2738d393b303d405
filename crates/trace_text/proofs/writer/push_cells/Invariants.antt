use Rattle.std.proofs.Common.{◌≡◌, ◌++◌, take}
use Rattle.text_lines.specs.Line.{text_of}
use Rattle.trace_text.specs.Text.{cell_lines}
use Rattle.trace_text.proofs.writer.push_cells.Given as goal

abbrev pub invariant-loop-process : goal.invariant-loop-process
invariant-loop-process l = l.out.items ≡ l.fn.out.items ++ text_of (cell_lines l.protocol l.array (take l.process l.cells))
