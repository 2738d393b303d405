use Rattle.std.proofs.Common.{◌≡◌, drop}
use Rattle.cub_proto.specs.Effect.{update_of}
use Rattle.updates.proofs.ways.update_of.Given as goal

abbrev pub invariant-loop-update : goal.invariant-loop-update
invariant-loop-update l = update_of (drop l.update-index l.updates) l.target ≡ update_of l.updates l.target
