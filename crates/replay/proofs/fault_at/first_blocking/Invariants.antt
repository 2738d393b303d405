use Rattle.std.proofs.Common.{◌≡◌, ◌-◌, find}
use Rattle.std.specs.List.{range_with_len}
use Rattle.replay.specs.Fault.{is_blocking, first_blocking}
use Rattle.replay.proofs.fault_at.first_blocking.Given as goal

abbrev pub invariant-loop-process : goal.invariant-loop-process
invariant-loop-process l =
    find (is_blocking l.state l.transition.others l.params) (range_with_len l.process (l.process-end - l.process)) ≡ first_blocking l.state l.transition.others l.params
