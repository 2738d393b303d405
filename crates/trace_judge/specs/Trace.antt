-- What a trace keeps that is read, so that it may be replayed.
use Rattle.std.specs.Prelude.{ℕ, ◌≤◌, List, length, All}
use Rattle.cub_proto.specs.declared.protocol.Protocol.{Protocol}
use Rattle.cub_proto.specs.declared.event.Event.{Event}
use Rattle.cub_proto.specs.Configuration.{Configuration, process_count}
use Rattle.replay.specs.Bound.{most_events}
use Rattle.replay.specs.FitsStart.{FitsStart}
use Rattle.replay.specs.FitsEvent.{FitsEvent}

-- few events, and each speaks of what the protocol and its n processes have
pub record AreEvents (p : Protocol) (n : ℕ) (events : List Event) : Type 0 where
  pub few : length events ≤ most_events
  pub fit : All (FitsEvent p n) events

-- a trace that may be replayed on the protocol
pub record MayReplay (p : Protocol) (start : Configuration) (events : List Event) : Type 0 where
  pub starts : FitsStart p start
  pub follows : AreEvents p (process_count start) events
