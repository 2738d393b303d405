-- The pieces of a cube as an event treats them.
use Rattle.std.specs.Prelude.{◌≡◌, List}
use Rattle.cub_proto.specs.declared.protocol.Protocol.{Protocol}
use Rattle.cub_cube.specs.declared.cube.Cube.{Cube}
use Rattle.log_form.specs.declared.numbered.Numbered.{Numbered}
use Rattle.log_form.specs.Numbering.{numbered}
use Rattle.log_form.specs.Pieces.{PieceRelation}

-- the list is that of the pieces of the cube, each with its number
pub record AreItsPieces (P : PieceRelation) (p : Protocol) (c : Cube) (list : List Numbered) : Type 0 where
  pub cubes : List Cube
  pub its : P p c cubes
  pub is : list ≡ numbered cubes
