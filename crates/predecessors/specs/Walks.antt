-- Going through the pieces of a cube.
use Rattle.std.specs.Prelude.{List, ◌++◌, reverse}
use Rattle.cub_proto.specs.declared.protocol.Protocol.{Protocol}
use Rattle.cub_cube.specs.declared.cube.Cube.{Cube}
use Rattle.predecessors.specs.Predecessors.{ArePieceCubes}

-- these cubes of the pieces of a cube were given, and the rest, the next one last, is to be given
abbrev pub AreGiven : Protocol → Cube → List Cube → List Cube → Type 0
AreGiven p c rest done = ArePieceCubes p c (done ++ reverse rest)
