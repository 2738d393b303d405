-- When a cover line names what covers.
use Rattle.std.specs.Prelude.{◌≡◌, ℕ, List, Contains}
use Rattle.cub_proto.specs.declared.protocol.Protocol.{Protocol}
use Rattle.cub_proto.specs.declared.cover.CoverLine.{CoverLine}
use Rattle.cub_cube.specs.declared.cube.Cube.{Cube}
use Rattle.piece_laws.specs.Test.{CoversAt}
use Rattle.cert_check.specs.declared.keys.Key.{Key}
use Rattle.cert_check.specs.Keys.{key_of}

-- the number of the line's cube, and its places
abbrev pub line_by : CoverLine → ℕ
line_by (CoverLine.Unsafe goal by places) = by
line_by (CoverLine.Piece cube piece by places) = by

abbrev pub line_places : CoverLine → List ℕ
line_places (CoverLine.Unsafe goal by places) = places
line_places (CoverLine.Piece cube piece by places) = places

-- a line is about the key, and its cube covers by its places
pub record IsNamed (p : Protocol) (cubes : List Cube) (lines : List CoverLine) (key : Key) (c : Cube) : Type 0 where
  pub line : CoverLine
  pub there : Contains lines line
  pub about : key_of line ≡ key
  pub covers : CoversAt p cubes (line_by line) c (line_places line)
