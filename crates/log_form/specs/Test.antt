-- The test of a certificate: no start state meets a cube, and one cube covers each consistent goal and each piece of a cube.
use Rattle.std.specs.Prelude.{List, Contains}
use Rattle.cub_proto.specs.declared.protocol.Goal.{Goal}
use Rattle.cub_proto.specs.declared.protocol.Protocol.{Protocol}
use Rattle.cub_cube.specs.declared.cube.Cube.{Cube}
use Rattle.cub_cube.specs.Meaning.{IsConsistent}
use Rattle.cub_cube.specs.Cover.{IsCovered}
use Rattle.cub_cube.specs.Goals.{goal_cube}
use Rattle.log_form.specs.Pieces.{PieceRelation}
use Rattle.cub_cube.specs.Starts.{IsStartCube}

-- the cube has a list of pieces, and one cube covers each of them
pub record AreCovered (P : PieceRelation) (p : Protocol) (cubes : List Cube) (c : Cube) : Type 0 where
  pub pieces : List Cube
  pub its : P p c pieces
  pub covered : (x : Cube) → Contains pieces x → IsCovered p cubes x

pub record PassesTest (P : PieceRelation) (p : Protocol) (cubes : List Cube) : Type 0 where
  pub start : (c : Cube) → Contains cubes c → IsStartCube p c → ⊥
  pub goals : (g : Goal) → Contains p.goals g → IsConsistent p g.width g.lits → IsCovered p cubes (goal_cube p g)
  pub pieces : (c : Cube) → Contains cubes c → AreCovered P p cubes c
