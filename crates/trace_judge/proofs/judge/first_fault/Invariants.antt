use Rattle.std.proofs.Common.{◌≡◌, ◌≤◌, drop, filter}
use Rattle.cub_proto.specs.Configuration.{process_count}
use Rattle.trace_judge.specs.Plain.{is_step, first_fault}
use Rattle.trace_judge.proofs.judge.first_fault.Given as goal

abbrev pub invariant-loop-event : goal.invariant-loop-event
invariant-loop-event l =
    (first_fault l.machine.protocol l.machine.state (filter is_step (drop l.event-index l.events)) l.number ≡ first_fault l.initial.machine.protocol l.initial.machine.state (filter is_step l.events) 0)
    × (l.machine.protocol ≡ l.initial.machine.protocol)
    × (process_count l.machine.state ≡ process_count l.initial.machine.state)
    × (l.number ≤ l.event-index) × (l.machine.accepted ≤ l.event-index)
