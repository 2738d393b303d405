-- With which states a replay may begin.
use Rattle.std.specs.Prelude.{ℕ, ◌<◌, Bool, ◌&&◌, nat_le}
use Rattle.cub_proto.specs.declared.state.Slot.{Slot}
use Rattle.cub_proto.specs.declared.state.Val.{Val}
use Rattle.cub_proto.specs.declared.protocol.Protocol.{Protocol}
use Rattle.cub_proto.specs.Configuration.{Configuration, process_count, IsAlive}
use Rattle.cub_proto.specs.StateOf.{IsStateOf}
use Rattle.replay.specs.Bound.{size_of, greatest_start, IsWithin}
use Rattle.replay.specs.FitsEvent.{slot_takes}

-- a state of the protocol with all processes alive and integers at most 2^60 in size; it need not be a start state
pub record FitsStart (p : Protocol) (s : Configuration) : Type 0 where
  pub state_of : IsStateOf p s
  pub alive : (i : ℕ) → i < process_count s → IsAlive s i
  pub within : IsWithin greatest_start s

-- the slot is there, the value is of its sort, and an integer is at most 2^60 in size
abbrev pub is_start_value : Protocol → ℕ → Slot → Val → Bool
is_start_value p n slot v = slot_takes p n slot v && nat_le (size_of v) greatest_start
