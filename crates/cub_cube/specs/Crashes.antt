-- Crashes of processes, one after another.
use Rattle.std.specs.Prelude.{◌≡◌, ℕ, zero, suc, Bool, ◌&&◌, not, if◌then◌else◌, List, [], ◌∷◌, length, map}
use Rattle.cub_proto.specs.declared.event.Event.{Event}
use Rattle.cub_proto.specs.declared.event.Event.TheVariants.{Crash}
use Rattle.cub_proto.specs.Configuration.{Configuration, is_alive, IsAlive, killed}

-- the crash of each process in turn
abbrev pub crashes : List ℕ → List Event
crashes processes = map (λ i. Crash i) processes

abbrev pub killed_all : Configuration → List ℕ → Configuration
killed_all s [] = s
killed_all s (i ∷ processes) = killed_all (killed s i) processes

-- the alive processes below n that are not to be kept, the greatest first
abbrev pub spare : (ℕ → Bool) → Configuration → ℕ → List ℕ
spare keep s zero = []
spare keep s (suc n) = if is_alive s n && not (keep n) then n ∷ spare keep (killed s n) n else spare keep s n

-- the second state is the first with fewer alive processes
pub record IsCrashed (s after : Configuration) : Type 0 where
  pub count : length after.living ≡ length s.living
  pub globals : after.globals ≡ s.globals
  pub arrays : after.arrays ≡ s.arrays
  pub alive : (i : ℕ) → IsAlive after i → IsAlive s i
