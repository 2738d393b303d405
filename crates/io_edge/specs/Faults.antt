-- Counts of faults, by which an answer shows that the outside failed.
use Rattle.std.specs.Prelude.{ℕ, ◌+◌, ◌-◌, ◌^◌, ◌<◌, min}

-- the count rose, or stands at the greatest u64
abbrev pub Rose : ℕ → ℕ → Type 0
Rose before now = now < 2 ^ 64 - 1 → before < now

-- a count one higher; it stays at the greatest u64
abbrev pub one_higher : ℕ → ℕ
one_higher count = min (count + 1) (2 ^ 64 - 1)
