-- Cubes none of which covers another.
use Rattle.std.specs.Prelude.{List, AllPairs}
use Rattle.cub_proto.specs.declared.protocol.Protocol.{Protocol}
use Rattle.cub_cube.specs.declared.cube.Cube.{Cube}
use Rattle.cub_cube.specs.Cover.{DoesCover}

-- no cube covers a later one, nor an earlier one
abbrev pub AreApart : Protocol → List Cube → Type 0
AreApart p cubes = AllPairs (λ c d. (DoesCover p c d → ⊥) × (DoesCover p d c → ⊥)) cubes
