use Rattle.std.proofs.Common.{◌≡◌, filter}
use Rattle.std.specs.List.{range_with_len}
use Rattle.replay.specs.Fault.{is_blocking}
use Rattle.trace_build.proofs.blocking.blocked_by.Given as goal

abbrev pub invariant-loop-process : goal.invariant-loop-process
invariant-loop-process l = l.list ≡ filter (is_blocking l.state l.transition.others l.params) (range_with_len 0 l.process)
