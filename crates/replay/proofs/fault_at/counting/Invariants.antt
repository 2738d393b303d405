use Rattle.std.proofs.Common.{◌≡◌, drop}
use Rattle.cub_proto.specs.Effect.{chosen, counting}
use Rattle.replay.proofs.fault_at.counting.Given as goal

abbrev pub invariant-loop-branch : goal.invariant-loop-branch
invariant-loop-branch l =
    chosen l.state l.places (drop l.branch-index l.branch-items) l.update.last ≡ counting l.state l.places l.update
