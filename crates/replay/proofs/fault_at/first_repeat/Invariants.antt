use Rattle.std.proofs.Common.{◌≡◌, take, drop}
use Rattle.replay.specs.Fault.{first_repeat_after, first_repeat}
use Rattle.replay.proofs.fault_at.first_repeat.Given as goal

abbrev pub invariant-loop-at : goal.invariant-loop-at
invariant-loop-at l = first_repeat_after (take l.at l.processes) (drop l.at l.processes) ≡ first_repeat l.processes
