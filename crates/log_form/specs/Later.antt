-- A log that goes on from another.
use Rattle.std.specs.Prelude.{◌≡◌, ℕ, ◌<◌, ◌≤◌, List, ◌++◌, length}
use Rattle.log_form.specs.declared.node.Fate.{Fate}
use Rattle.log_form.specs.declared.node.Node.{Node}
use Rattle.log_form.specs.declared.event.LogEvent.{LogEvent}
use Rattle.log_form.specs.Log.{LogValue, node_at}

-- the same cube, origin and places; a link stays, and what was expanded never waits again
pub record IsLaterNode (old new : Node) : Type 0 where
  pub cube : new.cube ≡ old.cube
  pub origin : new.origin ≡ old.origin
  pub places : new.places ≡ old.places
  pub covered : (by : ℕ) (places : List ℕ) → old.fate ≡ Fate.Covered by places → new.fate ≡ Fate.Covered by places
  pub waiting : new.fate ≡ Fate.Waiting → old.fate ≡ Fate.Waiting

-- each node is still there
pub record AreLaterNodes (old new : List Node) : Type 0 where
  pub count : length old ≤ length new
  pub each : (i : ℕ) → i < length old → IsLaterNode (node_at old i) (node_at new i)

-- the second log is of the same protocol and budget, and has the events of the first, and then more
pub record GoesOn (old new : LogValue) : Type 0 where
  pub protocol : new.protocol ≡ old.protocol
  pub budget : new.budget ≡ old.budget
  pub more : List LogEvent
  pub events : new.events ≡ old.events ++ more
