-- What a state of any protocol is, free of limits: who is alive, and the values of globals and cells.
use Rattle.std.specs.Prelude.{ℕ, ◌<◌, ◌^◌, Bool, false, List, [], length, slice_index_or, slice_set, IsTrue}
use Rattle.cub_proto.specs.declared.state.Slot.{Slot}
use Rattle.cub_proto.specs.declared.state.Val.{Val}
use Rattle.cub_proto.specs.declared.state.Val.TheVariants.{Con}

-- a state: for each process whether it is alive, the value of each global, and of each array the cell of each process
pub record Configuration : Type 0 where
  pub living : List Bool
  pub globals : List Val
  pub arrays : List (List Val)

-- the number of processes, alive or dead
abbrev pub process_count : Configuration → ℕ
process_count s = length s.living

-- the process is there and alive
abbrev pub is_alive : Configuration → ℕ → Bool
is_alive s i = slice_index_or s.living i false

abbrev pub IsAlive : Configuration → ℕ → Type 0
IsAlive s i = IsTrue (is_alive s i)

-- the cells of an array
abbrev pub cells_of : Configuration → ℕ → List Val
cells_of s a = slice_index_or s.arrays a []

-- the value at a slot; a slot that is not there reads as the first constructor
abbrev pub value_at : Configuration → Slot → Val
value_at s (Slot.Global g) = slice_index_or s.globals g (Con 0)
value_at s (Slot.Cell a i) = slice_index_or (cells_of s a) i (Con 0)

-- the slot is there
abbrev pub HasSlot : Configuration → Slot → Type 0
HasSlot s (Slot.Global g) = g < length s.globals
HasSlot s (Slot.Cell a i) = (a < length s.arrays) × (i < length (cells_of s a))

-- the state with another value at the slot
abbrev pub put : Configuration → Slot → Val → Configuration
put s (Slot.Global g) v = record s { globals = slice_set s.globals g v }
put s (Slot.Cell a i) v = record s { arrays = slice_set s.arrays a (slice_set (cells_of s a) i v) }

-- the state with the process dead
abbrev pub killed : Configuration → ℕ → Configuration
killed s i = record s { living = slice_set s.living i false }

-- the numbers of processes, globals and arrays fit the types that count them
pub record IsSmall (alive : List Bool) (values : List Val) (cells : List (List Val)) : Type 0 where
  pub few_processes : length alive < 2 ^ 32
  pub few_globals : length values < 2 ^ 16
  pub few_arrays : length cells < 2 ^ 16
