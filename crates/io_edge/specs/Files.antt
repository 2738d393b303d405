-- Files in memory: names with their bytes.
use Rattle.std.specs.Prelude.{ℕ, Bool, true, not, ◌&&◌, List, [], ◌∷◌, Option, option_map, find, bytes_eq, is_some}
use Rattle.io_edge.specs.declared.files.File.{File}

-- the bytes of the file with that name, if there is one
abbrev pub content_of : List File → List ℕ → Option (List ℕ)
content_of files name = option_map (λ file. file.bytes) (find (λ file. bytes_eq file.name name) files)

-- there is a file with that name
abbrev pub has_file : List File → List ℕ → Bool
has_file files name = is_some (content_of files name)

-- no two files have one name
abbrev pub are_distinct : List File → Bool
are_distinct [] = true
are_distinct (file ∷ files) = not (has_file files file.name) && are_distinct files
