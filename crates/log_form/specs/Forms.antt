-- Added cubes: a piece with some of its literals left out and its places renamed, where the meaning stays.
use Rattle.std.specs.Prelude.{◌≡◌, ℕ, List, IsTrue, Contains}
use Rattle.std.specs.List.{list_all}
use Rattle.cub_proto.specs.declared.literal.Lit.{Lit}
use Rattle.cub_proto.specs.declared.protocol.Protocol.{Protocol}
use Rattle.cub_proto.specs.StateOf.{signature_of}
use Rattle.cub_cube.specs.declared.cube.Cube.{Cube}
use Rattle.cub_cube.specs.Normal.{ordered, is_normal}
use Rattle.cub_cube.specs.Rename.{renamed, is_within, IsInjection}
use Rattle.cub_cube.specs.Meaning.{SameMeaningAlong}

-- item p of the renaming is the piece's place for place p of the cube, and each place of the piece stands there once;
-- each literal of the cube is, renamed, one of the piece; the cube is in normal form and has the meaning of the piece
pub record IsForm (p : Protocol) (piece : Cube) (places : List ℕ) (c : Cube) : Type 0 where
  pub width : c.width ≡ piece.width
  pub onto : IsInjection piece.width piece.width places
  pub within : IsTrue (list_all (is_within piece.width) c.lits)
  pub some : (l : Lit) → Contains c.lits l → Contains piece.lits (ordered (renamed places l))
  pub normal : IsTrue (is_normal (signature_of p) c.lits)
  pub same : SameMeaningAlong p piece.width places c.lits piece.lits
