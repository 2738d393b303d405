-- Which certificates may be written and read. Whether they prove anything is another question.
use Rattle.std.specs.Prelude.{ℕ, ◌<◌, ◌^◌, Bool, true, false, ◌&&◌, ◌||◌, ◌==◌, not, nat_lt, List, [], ◌∷◌, length, Option, Some, None, slice_get, IsTrue, All}
use Rattle.std.specs.List.{list_all, list_any}
use Rattle.cub_proto.specs.declared.protocol.Protocol.{Protocol}
use Rattle.cub_proto.specs.declared.cover.CoverLine.{CoverLine}
use Rattle.cub_cube.specs.declared.cube.Cube.{Cube}
use Rattle.cube_text.specs.Reading.{IsLawful}

-- the greatest width of a cube of a certificate
abbrev pub widest : ℕ
widest = 8

-- no place stands twice
abbrev pub are_apart : List ℕ → Bool
are_apart [] = true
are_apart (x ∷ xs) = not (list_any (λ y. x == y) xs) && are_apart xs

-- one place for each place of the cube that covers, below 11, all different
abbrev pub are_places : Option Cube → List ℕ → Bool
are_places None places = false
are_places (Some c) places = length places == c.width && list_all (λ i. nat_lt i 11) places && are_apart places

-- the goals and cubes of the line are there
abbrev pub is_lawful_line : Protocol → List Cube → CoverLine → Bool
is_lawful_line p cubes (CoverLine.Unsafe goal by places) = nat_lt goal (length p.goals) && are_places (slice_get cubes by) places
is_lawful_line p cubes (CoverLine.Piece cube piece by places) =
    nat_lt cube (length cubes) && nat_lt piece (2 ^ 64) && are_places (slice_get cubes by) places

-- lines on goals come first, by the goal, then those on pieces, by the cube and the piece
abbrev pub comes_before : CoverLine → CoverLine → Bool
comes_before (CoverLine.Unsafe goal by places) (CoverLine.Unsafe other by2 places2) = nat_lt goal other
comes_before (CoverLine.Unsafe goal by places) (CoverLine.Piece cube piece by2 places2) = true
comes_before (CoverLine.Piece cube piece by places) (CoverLine.Unsafe other by2 places2) = false
comes_before (CoverLine.Piece cube piece by places) (CoverLine.Piece cube2 piece2 by2 places2) =
    nat_lt cube cube2 || (cube == cube2 && nat_lt piece piece2)

-- the line comes after the last one, if there is one
abbrev pub comes_after : Option CoverLine → CoverLine → Bool
comes_after None line = true
comes_after (Some last) line = comes_before last line

-- each line comes after the one before it
abbrev pub lines_rise : Option CoverLine → List CoverLine → Bool
lines_rise last [] = true
lines_rise last (line ∷ lines) = comes_after last line && lines_rise (Some line) lines

-- the cover lines of a certificate
abbrev pub are_lawful_lines : Protocol → List Cube → List CoverLine → Bool
are_lawful_lines p cubes lines = list_all (is_lawful_line p cubes) lines && lines_rise None lines

abbrev pub are_lawful_covers : Protocol → List Cube → Option (List CoverLine) → Bool
are_lawful_covers p cubes None = true
are_lawful_covers p cubes (Some lines) = are_lawful_lines p cubes lines

-- a certificate that may be written and read
pub record IsLawfulCertificate (p : Protocol) (cubes : List Cube) (lines : Option (List CoverLine)) : Type 0 where
  pub few : length cubes < 2 ^ 32
  pub fit : All (IsLawful p widest) cubes
  pub covers : IsTrue (are_lawful_covers p cubes lines)
