-- The steps along a chain.
use Rattle.std.specs.Prelude.{◌≡◌, ℕ, List, [], ◌∷◌, Some, take, slice_get}
use Rattle.cub_proto.specs.declared.event.Event.{Event}
use Rattle.cub_proto.specs.declared.protocol.Protocol.{Protocol}
use Rattle.cub_proto.specs.Configuration.{Configuration}
use Rattle.cub_cube.specs.declared.cube.Cube.{Cube}
use Rattle.piece_choices.specs.declared.piece.Piece.{Piece}
use Rattle.piece_choices.specs.Pieces.{ArePieces}
use Rattle.log_form.specs.declared.node.Origin.{Origin}
use Rattle.trace_laws.specs.declared.chain.Link.{Link}
use Rattle.trace_laws.specs.Standing.{standing, step_by}

-- the step is that of the label of the piece with that number, with these processes at the places of the piece
pub record IsStepOf (p : Protocol) (s : Configuration) (next : Cube) (number : ℕ) (processes : List ℕ) (step : Event) : Type 0 where
  pub pieces : List Piece
  pub its : ArePieces p next pieces
  pub piece : Piece
  pub is_there : slice_get pieces number ≡ Some piece
  pub is : step ≡ step_by s piece.label processes

abbrev pub IsStepBy : Protocol → Configuration → Cube → Origin → List ℕ → Event → Type 0
IsStepBy p s next (Origin.Root goal) processes step = ⊥
IsStepBy p s next (Origin.Piece node number) processes step = IsStepOf p s next number processes step

-- the unsafe conjunction that the last link names, and the processes at its places
abbrev pub EndsAt : Origin → List ℕ → ℕ → List ℕ → Type 0
EndsAt (Origin.Root number) processes goal places = (goal ≡ number) × (places ≡ processes)
EndsAt (Origin.Piece node number) processes goal places = ⊥

-- one step for each link but the last, where the processes are those at the places of the first cube: the processes at
-- the first places of a piece are those at the places of the next cube
abbrev pub StepsAlong : Protocol → Configuration → List Link → List ℕ → List Event → ℕ → List ℕ → Type 0
StepsAlong p s [] processes steps goal places = ⊥
StepsAlong p s (link ∷ []) processes [] goal places = EndsAt link.origin (standing link.places processes) goal places
StepsAlong p s (link ∷ []) processes (step ∷ steps) goal places = ⊥
StepsAlong p s (link ∷ next ∷ chain) processes [] goal places = ⊥
StepsAlong p s (link ∷ next ∷ chain) processes (step ∷ steps) goal places =
    IsStepBy p s next.cube link.origin (standing link.places processes) step
    × StepsAlong p s (next ∷ chain) (take next.cube.width (standing link.places processes)) steps goal places
