-- Added cubes that are the chosen forms of pieces.
use Rattle.std.specs.Prelude.{◌≡◌, ℕ, List, Contains}
use Rattle.cub_proto.specs.declared.protocol.Protocol.{Protocol}
use Rattle.cub_cube.specs.declared.cube.Cube.{Cube}
use Rattle.log_form.specs.declared.event.Added.{Added}
use Rattle.log_form.specs.declared.numbered.Numbered.{Numbered}

-- a protocol, a piece, a renaming, and the cube that is the piece's form by it
abbrev pub FormRelation : Type 1
FormRelation = Protocol → Cube → List ℕ → Cube → Type 0

-- the added cube is the chosen form of the piece with its number
pub record IsChosen (C : FormRelation) (p : Protocol) (list : List Numbered) (a : Added) : Type 0 where
  pub piece : Numbered
  pub inside : Contains list piece
  pub numbered : a.piece ≡ piece.number
  pub chosen : C p piece.cube a.places a.cube
