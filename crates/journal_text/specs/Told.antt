-- What a line tells when only its words are looked at. A line that is written tells what it was written from; whether
-- another line was so written is decided by writing what it tells.
use Rattle.std.specs.Prelude.{ℕ, zero, suc, ◌-◌, if◌then◌else◌, min, List, [], ◌∷◌, codes, bytes_eq, Option, Some, None, unwrap_or}
use Rattle.cub_cube.specs.declared.cube.Cube.{Cube}
use Rattle.log_form.specs.declared.event.Added.{Added}
use Rattle.text_lines.specs.Word.{word, behind}
use Rattle.text_lines.specs.Number.{natural_of, counted}
use Rattle.text_lines.specs.Loose.{behind_words}
use Rattle.journal_text.specs.Numbers.{number_of}

-- the number of a piece, counted from 0; 0 where no number is written
abbrev pub piece_number : List ℕ → ℕ
piece_number bytes = min (unwrap_or (number_of bytes) 0 - 1) 18446744073709551615

-- so many places, from the words in order
abbrev pub places_told : ℕ → List ℕ → List ℕ
places_told zero bytes = []
places_told (suc n) bytes = min (counted (word bytes)) 255 ∷ places_told n (behind bytes)

-- the word with that number
abbrev pub word_told : ℕ → List ℕ → List ℕ
word_told n line = word (behind_words n line)

-- an added cube, once the cube is read: as many places as it has
abbrev pub item_told : Cube → List ℕ → Added
item_told c line =
    record { piece = piece_number (word_told 1 line); places = places_told c.width (behind_words 2 line); cube = c }

-- a number, 0 where none is written
abbrev pub number_told : ℕ → List ℕ → ℕ
number_told n line = unwrap_or (natural_of (word_told n line)) 0

-- the node of a closing line; none for the roots
abbrev pub node_told : List ℕ → Option ℕ
node_told line = if bytes_eq (word_told 1 line) (codes "roots") then None else Some (counted (word_told 1 line))
