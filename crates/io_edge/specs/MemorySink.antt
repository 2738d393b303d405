-- A sink in memory, and what a put makes of it.
use Rattle.std.specs.Prelude.{ℕ, ◌-◌, min, Bool, ◌||◌, ◌==◌, if◌then◌else◌, List, ◌++◌, length, take}
use Rattle.io_edge.specs.Faults.{one_higher}
use Rattle.io_edge.specs.Calls.{is_among, are_past}

-- the bytes written, the room for all of them, the most that one call takes, the calls that are to fail, how many
-- calls there were, and how many of them failed
pub record MemorySink : Type 0 where
  pub written : List ℕ
  pub room : ℕ
  pub most : ℕ
  pub fails : List ℕ
  pub calls : ℕ
  pub faults : ℕ

-- how many more bytes there is room for
abbrev pub room_left : MemorySink → ℕ
room_left sink = sink.room - length sink.written

-- a put fails that is to fail, or that finds no room left
abbrev pub put_fails : MemorySink → Bool
put_fails sink = is_among sink.fails sink.calls || room_left sink == 0

-- how many bytes of the piece another put takes
abbrev pub count_of : MemorySink → List ℕ → ℕ
count_of sink bytes = min (min (length bytes) sink.most) (room_left sink)

-- the sink after a put
abbrev pub after_put : MemorySink → List ℕ → MemorySink
after_put sink bytes =
    if put_fails sink
    then record sink { calls = one_higher sink.calls; faults = one_higher sink.faults }
    else record sink { calls = one_higher sink.calls; written = sink.written ++ take (count_of sink bytes) bytes }

-- how many more bytes it takes without a failure: all that there is room for, once no call is to fail any more
abbrev pub spare_of : MemorySink → ℕ
spare_of sink = if are_past sink.fails sink.calls then room_left sink else 0
