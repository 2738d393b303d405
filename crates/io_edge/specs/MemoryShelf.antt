-- A shelf in memory, and what a load of it gives.
use Rattle.std.specs.Prelude.{ℕ, Bool, ◌&&◌, nat_le, if◌then◌else◌, List, length, Option, Some, None, Result, Ok, Err}
use Rattle.io_edge.specs.Calls.{is_among, are_past}
use Rattle.io_edge.specs.Files.{content_of, has_file}
use Rattle.io_edge.specs.declared.files.File.{File}
use Rattle.io_edge.specs.declared.shelf.LoadFault.{LoadFault}
use Rattle.io_edge.specs.declared.shelf.LoadFault.TheVariants.{Failed, TooLong}

-- the files, the loads that are to fail, the names asked for, how many bytes the last load took, and how many failed
pub record MemoryShelf : Type 0 where
  pub files : List File
  pub fails : List ℕ
  pub asked : List (List ℕ)
  pub taken : ℕ
  pub faults : ℕ

-- what a file gives within the limit
abbrev pub given_of : Option (List ℕ) → ℕ → Result (List ℕ) LoadFault
given_of None limit = Err Failed
given_of (Some bytes) limit = if nat_le (length bytes) limit then Ok bytes else Err TooLong

-- what a load of the name gives, or one that is to fail
abbrev pub outcome_of : List File → Bool → List ℕ → ℕ → Result (List ℕ) LoadFault
outcome_of files fails name limit = if fails then Err Failed else given_of (content_of files name) limit

-- what the next load gives, want of memory aside; its number is that of the names asked for before it
abbrev pub load_of : MemoryShelf → List ℕ → ℕ → Result (List ℕ) LoadFault
load_of shelf name limit = outcome_of shelf.files (is_among shelf.fails (length shelf.asked)) name limit

-- loads of a name that it has fail no more, once no load is to fail any more
abbrev pub is_sure_of : MemoryShelf → List ℕ → Bool
is_sure_of shelf name = are_past shelf.fails (length shelf.asked) && has_file shelf.files name
