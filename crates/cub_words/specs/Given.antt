-- What the words so far have given.
use Rattle.std.specs.Prelude.{ℕ, ◌≤◌, Bool, Option, Some, None, is_some, IfSome, if◌then◌else◌}
use Rattle.cub_words.specs.declared.table.CommandName.{CommandName}
use Rattle.cub_words.specs.declared.table.OptionName.{OptionName}
use Rattle.cub_words.specs.declared.given.Given.{Given}

-- before any word
abbrev pub nothing_given : Given
nothing_given = record {
  first = None;
  second = None;
  levels = None;
  workers = None;
  cubes = None;
  width = None;
  format = None;
  waiting = None;
}

-- the command has all its names
abbrev pub is_full : CommandName → Given → Bool
is_full CommandName.Check given = is_some given.first
is_full CommandName.Print given = is_some given.first
is_full CommandName.Verify given = is_some given.second
is_full CommandName.Replay given = is_some given.second
is_full CommandName.Sample given = is_some given.levels

-- the value of an option, if it was given
abbrev pub value_given : OptionName → Given → Option ℕ
value_given OptionName.Workers given = given.workers
value_given OptionName.Cubes given = given.cubes
value_given OptionName.Width given = given.width
value_given OptionName.Format given = given.format

-- one more value, awaited no longer
abbrev pub with_value : OptionName → ℕ → Given → Given
with_value OptionName.Workers value given = record given { workers = Some value; waiting = None }
with_value OptionName.Cubes value given = record given { cubes = Some value; waiting = None }
with_value OptionName.Width value given = record given { width = Some value; waiting = None }
with_value OptionName.Format value given = record given { format = Some value; waiting = None }

-- one more file, the word with that number
abbrev pub with_file : ℕ → Given → Given
with_file number given =
    if is_some given.first then record given { second = Some number } else record given { first = Some number }

-- each value is within its range
pub record IsLawful (given : Given) : Type 0 where
  pub levels : IfSome given.levels (λ value. (2 ≤ value) × (value ≤ 63))
  pub workers : IfSome given.workers (λ value. (1 ≤ value) × (value ≤ 16))
  pub cubes : IfSome given.cubes (λ value. (1 ≤ value) × (value ≤ 65536))
  pub width : IfSome given.width (λ value. (1 ≤ value) × (value ≤ 8))
  pub format : IfSome given.format (λ value. (1 ≤ value) × (value ≤ 2))
