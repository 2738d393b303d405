use Rattle.std.proofs.Common.{◌≡◌, drop}
use Rattle.replay.specs.Writes.{SameShape, written}
use Rattle.replay.proofs.effect.write_updates.Given as goal

abbrev pub invariant-loop-update : goal.invariant-loop-update
invariant-loop-update l = record {
  rest : written l.state l.params l.next (drop l.update-index l.updates) ≡ written l.state l.params l.fn.next l.updates;
  shape : SameShape l.state l.next;
}
