use Rattle.std.proofs.Common.{◌≡◌, take}
use Rattle.cub_proto.specs.Configuration.{process_count}
use Rattle.cub_proto.specs.Legal.{AreLegal}
use Rattle.replay.specs.Machine.{after_events}
use Rattle.replay.proofs.machine.Machine.run.Given as goal

abbrev pub invariant-loop-number : goal.invariant-loop-number
invariant-loop-number l = record {
  left : l.self ≡ after_events l.fn.self l.events l.number;
  legal : AreLegal l.fn.self.protocol l.fn.self.state (take l.number l.events);
  count : process_count l.self.state ≡ process_count l.fn.self.state;
}
