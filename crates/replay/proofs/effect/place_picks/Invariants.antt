use Rattle.std.proofs.Common.{◌≡◌, drop, All}
use Rattle.cub_proto.specs.Configuration.{HasSlot}
use Rattle.replay.specs.Writes.{placed}
use Rattle.replay.proofs.effect.place_picks.Given as goal

abbrev pub invariant-loop-pick : goal.invariant-loop-pick
invariant-loop-pick l = record {
  rest : placed l.next (drop l.pick-index l.picks) ≡ placed l.fn.next l.picks;
  there : All (λ c. HasSlot l.next c.slot) l.picks;
}
