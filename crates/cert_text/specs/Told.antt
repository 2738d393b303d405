-- What a cover line tells when only its words are looked at. A line that is written from a cover line tells that line;
-- whether another line was so written is decided by writing what it tells.
use Rattle.std.specs.Prelude.{ℕ, zero, suc, ◌-◌, if◌then◌else◌, min, List, [], ◌∷◌, codes, bytes_eq, Option, Some, None, unwrap_or, slice_get}
use Rattle.cub_proto.specs.declared.cover.CoverLine.{CoverLine}
use Rattle.cub_cube.specs.declared.cube.Cube.{Cube}
use Rattle.text_lines.specs.Word.{word, behind}
use Rattle.text_lines.specs.Number.{counted}
use Rattle.text_lines.specs.Loose.{behind_words}
use Rattle.cert_text.specs.Numbers.{number_of}

-- the number of a piece, counted from 0; 0 where no number is written
abbrev pub piece_number : List ℕ → ℕ
piece_number bytes = min (unwrap_or (number_of bytes) 0 - 1) 18446744073709551615

-- so many places, from the words in order
abbrev pub places_told : ℕ → List ℕ → List ℕ
places_told zero bytes = []
places_told (suc n) bytes = min (counted (word bytes)) 255 ∷ places_told n (behind bytes)

-- one for each place of the cube that covers
abbrev pub places_by : Option Cube → List ℕ → List ℕ
places_by None bytes = []
places_by (Some c) bytes = places_told c.width bytes

abbrev pub counted_at : ℕ → List ℕ → ℕ
counted_at n line = counted (word (behind_words n line))

abbrev pub unsafe_told : List Cube → List ℕ → CoverLine
unsafe_told cubes line =
    CoverLine.Unsafe (counted_at 1 line) (counted_at 3 line) (places_by (slice_get cubes (counted_at 3 line)) (behind_words 4 line))

abbrev pub piece_told : List Cube → List ℕ → CoverLine
piece_told cubes line =
    CoverLine.Piece (counted_at 4 line) (piece_number (word (behind_words 1 line))) (counted_at 6 line)
    (places_by (slice_get cubes (counted_at 6 line)) (behind_words 7 line))

abbrev pub cover_told : List Cube → List ℕ → CoverLine
cover_told cubes line = if bytes_eq (word line) (codes "unsafe") then unsafe_told cubes line else piece_told cubes line
