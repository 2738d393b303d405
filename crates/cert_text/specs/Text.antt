-- The text of a certificate: a line for each part, in order. Cubes, goals and pieces count from 1 there.
use Rattle.std.specs.Prelude.{ℕ, ◌+◌, Bool, true, false, List, [], ◌∷◌, ◌++◌, length, map, codes, decimal, Option, is_some}
use Rattle.std.specs.Option.{option_map_or}
use Rattle.cub_proto.specs.declared.protocol.Protocol.{Protocol}
use Rattle.cub_proto.specs.declared.cover.CoverLine.{CoverLine}
use Rattle.cub_cube.specs.declared.cube.Cube.{Cube}
use Rattle.text_lines.specs.Line.{text_of}
use Rattle.text_lines.specs.Spelling.{processes_text}
use Rattle.cube_text.specs.Text.{cube_text}

-- version 2 is that with cover lines
abbrev pub version_text : Bool → List ℕ
version_text true = codes "certificate 2"
version_text false = codes "certificate 1"

abbrev pub count_text : List ℕ → List ℕ
count_text digits = codes "cubes " ++ digits

-- the cube and the places that cover
abbrev pub by_text : ℕ → List ℕ → List ℕ
by_text by places = codes " by " ++ decimal (by + 1) ++ codes " " ++ processes_text places

abbrev pub cover_text : CoverLine → List ℕ
cover_text (CoverLine.Unsafe goal by places) = codes "unsafe " ++ decimal (goal + 1) ++ by_text by places
cover_text (CoverLine.Piece cube piece by places) = codes "piece " ++ decimal (piece + 1) ++ codes " of cube " ++ decimal (cube + 1) ++ by_text by places

abbrev pub cover_texts : Option (List CoverLine) → List (List ℕ)
cover_texts lines = option_map_or (map cover_text) lines []

abbrev pub certificate_lines : Protocol → List Cube → Option (List CoverLine) → List (List ℕ)
certificate_lines p cubes lines =
    codes "SAFE" ∷ version_text (is_some lines) ∷ count_text (decimal (length cubes)) ∷ [] ++ map (cube_text p) cubes ++ cover_texts lines ++ codes "end" ∷ []

-- the text of a certificate, in version 1 without cover lines
abbrev pub certificate_text : Protocol → List Cube → Option (List CoverLine) → List ℕ
certificate_text p cubes lines = text_of (certificate_lines p cubes lines)
