-- How far processes of the sample protocol have climbed.
use Rattle.std.specs.Prelude.{◌≡◌, ◌≢◌, ◌⊎◌, ℕ}
use Rattle.cub_proto.specs.declared.state.Slot.{Slot}
use Rattle.cub_proto.specs.Configuration.{Configuration, IsAlive, value_at}
use Rattle.cub_proto.specs.Truth.{constructor_of}

-- the level of a process
abbrev pub level_at : Configuration → ℕ → ℕ
level_at s i = constructor_of (value_at s (Slot.Cell 0 i))

-- of two alive processes one is on the lowest level
abbrev pub OneClimbs : Configuration → Type 0
OneClimbs s = (i j : ℕ) → IsAlive s i → IsAlive s j → i ≢ j → (level_at s i ≡ 0) ⊎ (level_at s j ≡ 0)
