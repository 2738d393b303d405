-- Where the reading of the start values stands, when the state has the values that were read and the first ones elsewhere.
use Rattle.std.specs.Prelude.{◌≡◌, ℕ, Bool, List, take, Some}
use Rattle.cub_proto.specs.declared.protocol.Protocol.{Protocol}
use Rattle.cub_proto.specs.declared.state.Slot.{Slot}
use Rattle.cub_proto.specs.declared.state.Val.{Val}
use Rattle.cub_proto.specs.Configuration.{Configuration, cells_of}
use Rattle.text_lines.specs.Line.{line_at}
use Rattle.trace_text.specs.declared.fault.TraceFault.{TraceFault}
use Rattle.trace_text.specs.declared.fault.TraceFault.TheVariants as faults
use Rattle.trace_text.specs.Place.{Place, TakesValue, behind_globals, behind_arrays, behind_cells}

-- the first line gives the slot this value, and this is behind it
abbrev pub TakenHere : Protocol → ℕ → Slot → List ℕ → Val → List ℕ → Type 0
TakenHere p n slot text v rest = (bytes : List ℕ) × (line_at text ≡ Some (bytes, rest)) × TakesValue p n slot bytes v

-- the first line gives the slot no value: that is S3 at this line
abbrev pub IsNoValue : Protocol → ℕ → Slot → ℕ → List ℕ → TraceFault → Type 0
IsNoValue p n slot line text (faults.Fault at kind) =
    (at ≡ line) × (kind ≡ 3) × ((bytes rest : List ℕ) (v : Val) → line_at text ≡ Some (bytes, rest) → TakesValue p n slot bytes v → ⊥)
IsNoValue p n slot line text faults.Memory = Unit {0}

-- behind the first so many globals of the state
abbrev pub at_globals : Protocol → Bool → ℕ → Configuration → ℕ → Place
at_globals p crashes n s read = behind_globals p crashes n (take read s.globals)

-- behind the first so many arrays
abbrev pub at_arrays : Protocol → Bool → ℕ → Configuration → ℕ → Place
at_arrays p crashes n s read = behind_arrays p crashes n s.globals (take read s.arrays)

-- behind the first so many cells of an array
abbrev pub at_cells : Protocol → Bool → ℕ → Configuration → ℕ → ℕ → Place
at_cells p crashes n s array read = behind_cells p crashes n s.globals (take array s.arrays) (take read (cells_of s array))
