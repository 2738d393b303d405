use Rattle.std.proofs.Common.{◌≡◌, ◌++◌, take, flat_map}
use Rattle.text_lines.specs.Line.{text_of}
use Rattle.journal_text.specs.Text.{event_lines}
use Rattle.journal_text.proofs.writer.push_events.Given as goal

abbrev pub invariant-loop-event : goal.invariant-loop-event
invariant-loop-event l = l.out.items ≡ l.fn.out.items ++ text_of (flat_map (event_lines l.protocol) (take l.event-index l.events))
