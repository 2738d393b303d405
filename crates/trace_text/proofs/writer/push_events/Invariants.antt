use Rattle.std.proofs.Common.{◌≡◌, ◌++◌, take, map}
use Rattle.text_lines.specs.Line.{text_of}
use Rattle.trace_text.specs.Text.{event_text}
use Rattle.trace_text.proofs.writer.push_events.Given as goal

abbrev pub invariant-loop-event : goal.invariant-loop-event
invariant-loop-event l = l.out.items ≡ l.fn.out.items ++ text_of (map (event_text l.protocol) (take l.event-index l.events))
