-- Cubes that may be read and asked about once they are in normal form.
use Rattle.std.specs.Prelude.{◌≤◌, IsTrue}
use Rattle.std.specs.List.{list_all}
use Rattle.cub_proto.specs.declared.protocol.Protocol.{Protocol}
use Rattle.cub_proto.specs.StateOf.{signature_of}
use Rattle.cub_proto.specs.Fits.{literal_fits, is_bounded}
use Rattle.cub_cube.specs.declared.cube.Cube.{Cube}
use Rattle.log_form.specs.Pieces.{widest, greatest_asked}

-- the cube has at most eleven places, its literals fit the protocol, and its bounds are below the limit
pub record IsReadable (p : Protocol) (c : Cube) : Type 0 where
  pub narrow : c.width ≤ widest
  pub fits : IsTrue (list_all (literal_fits (signature_of p) c.width) c.lits)
  pub bounded : IsTrue (list_all (is_bounded greatest_asked) c.lits)
