use Rattle.std.proofs.Common.{◌≡◌, drop}
use Rattle.replay.specs.Writes.{SameShape, copied}
use Rattle.replay.proofs.effect.copy_targets.Given as goal

abbrev pub invariant-loop-update : goal.invariant-loop-update
invariant-loop-update l = record {
  rest : copied l.from l.to (drop l.update-index l.updates) ≡ copied l.from l.fn.to l.updates;
  shape : SameShape l.from l.to;
}
