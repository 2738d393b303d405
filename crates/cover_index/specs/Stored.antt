-- Cubes with their summaries, in segments of 64 of which the first so many cubes are shown.
use Rattle.std.specs.Prelude.{◌≡◌, ℕ, ◌+◌, ◌/◌, ◌%◌, ◌<◌, ◌≤◌, List, length, map, slice_index_or}
use Rattle.std.specs.List.{range_with_len}
use Rattle.cub_cube.specs.declared.cube.Cube.{Cube}
use Rattle.log_form.specs.Links.{cube_at}
use Rattle.subsume.specs.declared.summary.Summary.{Summary}
use Rattle.cover_index.specs.Asked.{summary_at}
use Rattle.cover_index.specs.Sealed.{Sealed, no_segment}

pub record Stored : Type 0 where
  pub cubes : List Cube
  pub summaries : List Summary

-- a segment of the list, and one without cubes past its end
abbrev pub segment_at : List Sealed → ℕ → Sealed
segment_at segments i = slice_index_or segments i no_segment

-- the cube with that number is one of the segment with a 64th of it
abbrev pub shown_cube : List Sealed → ℕ → Cube
shown_cube segments i = cube_at (segment_at segments (i / 64)).cubes (i % 64)

abbrev pub shown_summary : List Sealed → ℕ → Summary
shown_summary segments i = summary_at (segment_at segments (i / 64)).summaries (i % 64)

-- what is shown
abbrev pub shown : List Sealed → ℕ → Stored
shown segments count = record { cubes = map (shown_cube segments) (range_with_len 0 count); summaries = map (shown_summary segments) (range_with_len 0 count) }

-- each cube that is shown is there
abbrev pub HoldsShown : List Sealed → ℕ → Type 0
HoldsShown segments count = (i : ℕ) → i < count → i % 64 < length (segment_at segments (i / 64)).cubes

-- other segments show the same
pub record IsStillShown (old new : List Sealed) (count : ℕ) : Type 0 where
  pub more : length old ≤ length new
  pub holds : HoldsShown new count
  pub cubes : (i : ℕ) → i < count → shown_cube new i ≡ shown_cube old i
  pub summaries : (i : ℕ) → i < count → shown_summary new i ≡ shown_summary old i

-- the segment has the cubes of the list from that number on, up to 64
pub record Shows (stored : Stored) (base : ℕ) (segment : Sealed) : Type 0 where
  pub there : (j : ℕ) → j < 64 → base + j < length stored.cubes → j < length segment.cubes
  pub cubes : (j : ℕ) → j < 64 → base + j < length stored.cubes → cube_at segment.cubes j ≡ cube_at stored.cubes (base + j)
  pub summaries : (j : ℕ) → j < 64 → base + j < length stored.cubes → summary_at segment.summaries j ≡ summary_at stored.summaries (base + j)
