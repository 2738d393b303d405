-- What a machine is seen as, and what it keeps.
use Rattle.std.specs.Prelude.{◌≡◌, ℕ, ◌+◌, ◌≤◌, List, Some, slice_get, take}
use Rattle.cub_proto.specs.declared.event.Event.{Event}
use Rattle.cub_proto.specs.declared.protocol.Protocol.{Protocol}
use Rattle.cub_proto.specs.declared.protocol.Goal.{Goal}
use Rattle.cub_proto.specs.Configuration.{Configuration}
use Rattle.cub_proto.specs.StateOf.{IsStateOf}
use Rattle.cub_proto.specs.Legal.{AreLegal, after_all}
use Rattle.cub_proto.specs.Meets.{Satisfies}
use Rattle.replay.specs.declared.fault.Refused.{Refused}
use Rattle.replay.specs.Bound.{IsWithin, bound_after, most_events}
use Rattle.replay.specs.Fault.{fault_at}

-- a protocol, the state that the events left so far, and their number
pub record Replay : Type 0 where
  pub protocol : Protocol
  pub state : Configuration
  pub accepted : ℕ

-- the machine keeps a state of the protocol twice, with integers so small that the events to come add nothing too large
pub record IsReady (p : Protocol) (s twin : Configuration) (accepted : ℕ) : Type 0 where
  pub state_of : IsStateOf p s
  pub same : twin ≡ s
  pub within : IsWithin (bound_after accepted) s
  pub few : accepted ≤ most_events

-- the named processes make the named unsafe conjunction true
pub record MakesUnsafe (p : Protocol) (s : Configuration) (number : ℕ) (places : List ℕ) : Type 0 where
  pub goal : Goal
  pub is_there : slice_get p.goals number ≡ Some goal
  pub satisfied : Satisfies s places goal.width goal.lits

-- the machine after so many of the events
abbrev pub after_events : Replay → List Event → ℕ → Replay
after_events m events count = record m {
  state = after_all m.protocol m.state (take count events);
  accepted = m.accepted + count;
}

-- the event with that number is the first that is not legal: the machine stopped before it, and it has the fault there
pub record IsFirstRefused (old new : Replay) (events : List Event) (refused : Refused) : Type 0 where
  pub legal : AreLegal old.protocol old.state (take refused.number events)
  pub left : new ≡ after_events old events refused.number
  pub event : Event
  pub is_there : slice_get events refused.number ≡ Some event
  pub fault : fault_at old.protocol new.state event ≡ Some refused.fault
