-- When a start state meets a conjunction, and a cube.
use Rattle.std.specs.Prelude.{ℕ, List}
use Rattle.cub_proto.specs.declared.literal.Lit.{Lit}
use Rattle.cub_proto.specs.declared.protocol.Protocol.{Protocol}
use Rattle.cub_proto.specs.Configuration.{Configuration}
use Rattle.cub_proto.specs.Legal.{IsStart}
use Rattle.cub_proto.specs.Meets.{Meets}
use Rattle.cub_cube.specs.declared.cube.Cube.{Cube}

-- some start state of the protocol meets the conjunction
abbrev pub MeetsStart : Protocol → ℕ → List Lit → Type 0
MeetsStart p width lits = (s : Configuration) × IsStart p s × Meets s width lits

-- some start state of the protocol meets the cube
abbrev pub IsStartCube : Protocol → Cube → Type 0
IsStartCube p c = MeetsStart p c.width c.lits
