-- The pieces of a cube as cubes.
use Rattle.std.specs.Prelude.{◌≡◌, List, map}
use Rattle.cub_proto.specs.declared.protocol.Protocol.{Protocol}
use Rattle.cub_cube.specs.declared.cube.Cube.{Cube}
use Rattle.piece_choices.specs.declared.piece.Piece.{Piece}
use Rattle.piece_choices.specs.Pieces.{ArePieces}

abbrev pub cubes_of : List Piece → List Cube
cubes_of pieces = map (λ x. x.cube) pieces

-- the cubes are those of the pieces of a cube, in their order
abbrev pub ArePieceCubes : Protocol → Cube → List Cube → Type 0
ArePieceCubes p c cubes = (pieces : List Piece) × ArePieces p c pieces × (cubes ≡ cubes_of pieces)
