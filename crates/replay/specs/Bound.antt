-- How large the integers of a replay become: a step adds at most the greatest constant of a protocol.
use Rattle.std.specs.Prelude.{ℕ, ◌+◌, ◌*◌, ◌≤◌, List, All, unsigned_abs}
use Rattle.cub_proto.specs.declared.state.Val.{Val}
use Rattle.cub_proto.specs.declared.state.Val.TheVariants.{Con, Proc, Int}
use Rattle.cub_proto.specs.Configuration.{Configuration}
use Rattle.cub_proto.specs.Fits.{greatest_constant}

-- the size of an integer; 0 for other values
abbrev pub size_of : Val → ℕ
size_of (Con c) = 0
size_of (Proc i) = 0
size_of (Int m) = unsigned_abs m

abbrev pub AreWithin : ℕ → List Val → Type 0
AreWithin bound values = All (λ v. size_of v ≤ bound) values

-- every integer of the state has at most this size
pub record IsWithin (bound : ℕ) (s : Configuration) : Type 0 where
  pub globals_within : AreWithin bound s.globals
  pub cells_within : All (AreWithin bound) s.arrays

-- the greatest size of an integer at the start
abbrev pub greatest_start : ℕ
greatest_start = 1152921504606846976

-- how many events a replay takes
abbrev pub most_events : ℕ
most_events = 131072

-- the greatest size of an integer after so many events
abbrev pub bound_after : ℕ → ℕ
bound_after accepted = greatest_start + accepted * greatest_constant
