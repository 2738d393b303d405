-- When a state leads into a cube, and when it meets a piece of it.
use Rattle.std.specs.Prelude.{◌≡◌, ℕ, List, [], ◌∷◌, ◌++◌, Contains}
use Rattle.cub_proto.specs.declared.event.Chosen.{Chosen}
use Rattle.cub_proto.specs.declared.event.Event.{Event}
use Rattle.cub_proto.specs.declared.event.Event.TheVariants.{Fire}
use Rattle.cub_proto.specs.declared.protocol.Protocol.{Protocol}
use Rattle.cub_proto.specs.Configuration.{Configuration}
use Rattle.cub_proto.specs.Legal.{AreLegal, after_all}
use Rattle.cub_proto.specs.Meets.{Meets}
use Rattle.cub_cube.specs.declared.cube.Cube.{Cube}
use Rattle.cub_cube.specs.Crashes.{crashes}
use Rattle.piece_choices.specs.declared.piece.Piece.{Piece}

-- some crashes, perhaps none, and then one firing of a transition
abbrev pub crashes_then : List ℕ → ℕ → List ℕ → List Chosen → List Event
crashes_then dead number params picks = crashes dead ++ Fire number params picks ∷ []

-- such events are legal, and lead from the state to one that meets the cube
pub record LeadsInto (p : Protocol) (c : Cube) (number : ℕ) (s : Configuration) : Type 0 where
  pub dead : List ℕ
  pub params : List ℕ
  pub picks : List Chosen
  pub legal : AreLegal p s (crashes_then dead number params picks)
  pub meets : Meets (after_all p s (crashes_then dead number params picks)) c.width c.lits

-- the state meets one of the pieces that is of that transition
abbrev pub MeetsPiece : List Piece → ℕ → Configuration → Type 0
MeetsPiece pieces number s = (x : Piece) × Contains pieces x × (x.label.transition ≡ number) × Meets s x.cube.width x.cube.lits
