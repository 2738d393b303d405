use Rattle.trace_text.proofs.Looping.{IsReadEvents}
use Rattle.trace_text.proofs.reader.read_events.Given as goal

abbrev pub invariant-loop : goal.invariant-loop
invariant-loop l = IsReadEvents l.protocol l.start l.events l.at l.rest l.line l.text l.counter
