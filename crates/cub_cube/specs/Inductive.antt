-- Inductive lists of cubes: what they describe holds of every unsafe state, of no start state, and of each state from
-- which an event leads into them.
use Rattle.std.specs.Prelude.{List, Contains}
use Rattle.cub_proto.specs.declared.event.Event.{Event}
use Rattle.cub_proto.specs.declared.protocol.Protocol.{Protocol}
use Rattle.cub_proto.specs.Configuration.{Configuration}
use Rattle.cub_proto.specs.StateOf.{IsStateOf}
use Rattle.cub_proto.specs.Legal.{IsStart, IsLegal, after}
use Rattle.cub_proto.specs.Meets.{Meets, IsUnsafe}
use Rattle.cub_cube.specs.declared.cube.Cube.{Cube}

-- the state meets a cube of the list
abbrev pub MeetsSome : Configuration → List Cube → Type 0
MeetsSome s cubes = (c : Cube) × Contains cubes c × Meets s c.width c.lits

-- inductive for a protocol, over all its states of all process counts and both kinds of event
pub record IsInductive (p : Protocol) (cubes : List Cube) : Type 0 where
  pub start : (s : Configuration) → IsStart p s → MeetsSome s cubes → ⊥
  pub goals : (s : Configuration) → IsStateOf p s → IsUnsafe p s → MeetsSome s cubes
  pub step : (s : Configuration) (e : Event) → IsStateOf p s → IsLegal p s e → MeetsSome (after p s e) cubes
      → MeetsSome s cubes
