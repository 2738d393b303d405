use Rattle.std.proofs.Common.{◌≡◌, ◌-◌, find, not, [], ◌∷◌}
use Rattle.std.specs.List.{range_with_len}
use Rattle.cub_proto.specs.Truth.{any_true}
use Rattle.replay.specs.Start.{first_unstarted}
use Rattle.replay.proofs.start.first_unstarted.Given as goal

abbrev pub invariant-loop-process : goal.invariant-loop-process
invariant-loop-process l =
    find (λ i. not (any_true l.state (i ∷ []) l.protocol.start)) (range_with_len l.process (l.process-end - l.process)) ≡ first_unstarted l.protocol l.state
