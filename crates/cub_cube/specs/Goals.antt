-- The goals of a protocol as cubes.
use Rattle.cub_proto.specs.declared.protocol.Goal.{Goal}
use Rattle.cub_proto.specs.declared.protocol.Protocol.{Protocol}
use Rattle.cub_proto.specs.StateOf.{signature_of}
use Rattle.cub_cube.specs.declared.cube.Cube.{Cube}
use Rattle.cub_cube.specs.Normal.{normal_form}

-- a goal as a cube
abbrev pub goal_cube : Protocol → Goal → Cube
goal_cube p g = record { width = g.width; lits = normal_form (signature_of p) g.lits }
