-- The form that a search gives a cube.
use Rattle.std.specs.Prelude.{ℕ, List}
use Rattle.cub_proto.specs.declared.protocol.Protocol.{Protocol}
use Rattle.cub_cube.specs.declared.cube.Cube.{Cube}
use Rattle.cube_form.specs.Simple.{IsSimplified}
use Rattle.cube_form.specs.Name.{IsNamed}

-- the cube simplified, and then with its places in order
pub record IsGivenForm (p : Protocol) (c : Cube) (places : List ℕ) (given : Cube) : Type 0 where
  pub simple : Cube
  pub simplified : IsSimplified p c simple
  pub named : IsNamed p simple places given
