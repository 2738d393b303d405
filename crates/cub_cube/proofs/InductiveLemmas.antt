-- A protocol with an inductive list of cubes is safe: by induction on the events, each state of a run to an unsafe one
-- meets a cube, the start too.
use Rattle.std.specs.Prelude.{List, [], ◌∷◌}
use Rattle.cub_proto.specs.declared.event.Event.{Event}
use Rattle.cub_proto.specs.declared.protocol.Protocol.{Protocol}
use Rattle.cub_proto.specs.Configuration.{Configuration}
use Rattle.cub_proto.specs.StateOf.{IsStateOf}
use Rattle.cub_proto.specs.Legal.{AreLegal, after, after_all}
use Rattle.cub_proto.specs.Meets.{IsUnsafe, IsSafe}
use Rattle.cub_proto.proofs.KeepsStates.{after_state}
use Rattle.cub_cube.specs.declared.cube.Cube.{Cube}
use Rattle.cub_cube.specs.Inductive.{IsInductive, MeetsSome}

module _ (p : Protocol) (cubes : List Cube) (inductive : IsInductive p cubes) where
  pub back_to_start : (s : Configuration) (events : List Event) → IsStateOf p s → AreLegal p s events → IsUnsafe p (after_all p s events) → MeetsSome s cubes
  back_to_start s [] state legal unsafe = inductive.goals s state unsafe
  back_to_start s (e ∷ events) state legal unsafe =
      inductive.step s e state legal.0 (back_to_start (after p s e) events (after_state p s e state legal.0) legal.1 unsafe)

  pub inductive_safe : IsSafe p
  inductive_safe s events run unsafe = inductive.start s run.start (back_to_start s events run.start.state run.legal unsafe)
