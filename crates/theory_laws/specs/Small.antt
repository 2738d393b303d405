-- States whose integers are small.
use Rattle.std.specs.Prelude.{pos, ◌-ℤ◌, ◌≤ℤ◌}
use Rattle.cub_proto.specs.declared.state.Slot.{Slot}
use Rattle.cub_proto.specs.declared.state.Val.{Val}
use Rattle.cub_proto.specs.declared.state.Val.TheVariants.{Con, Proc, Int}
use Rattle.cub_proto.specs.Configuration.{Configuration, value_at}

-- an integer is at most 105 * 2 ^ 48 in size, which is below 2 ^ 55
abbrev pub IsSmallValue : Val → Type 0
IsSmallValue (Con c) = Unit {0}
IsSmallValue (Proc i) = Unit {0}
IsSmallValue (Int z) = ((pos 0 -ℤ z) ≤ℤ pos 29554872554618880) × (z ≤ℤ pos 29554872554618880)

-- so is each integer of the state
abbrev pub HasSmallIntegers : Configuration → Type 0
HasSmallIntegers s = (slot : Slot) → IsSmallValue (value_at s slot)
