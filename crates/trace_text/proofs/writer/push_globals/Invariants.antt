use Rattle.std.proofs.Common.{◌≡◌, ◌++◌, take}
use Rattle.text_lines.specs.Line.{text_of}
use Rattle.trace_text.specs.Text.{global_lines}
use Rattle.trace_text.proofs.writer.push_globals.Given as goal

abbrev pub invariant-loop-global : goal.invariant-loop-global
invariant-loop-global l = l.out.items ≡ l.fn.out.items ++ text_of (global_lines l.protocol (take l.global l.globals))
