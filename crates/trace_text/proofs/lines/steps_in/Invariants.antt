use Rattle.std.proofs.Common.{◌≡◌, take}
use Rattle.trace_text.specs.Lawful.{steps_in}
use Rattle.trace_text.proofs.lines.steps_in.Given as goal

abbrev pub invariant-loop-event : goal.invariant-loop-event
invariant-loop-event l = l.steps ≡ steps_in (take l.event-index l.events)
