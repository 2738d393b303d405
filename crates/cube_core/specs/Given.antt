-- Given events, beside what an event treats.
use Rattle.std.specs.Prelude.{◌≡◌, ◌≢◌, ◌⊎◌, ℕ, ◌<◌, ◌≤◌, List, [], map, length, Some, None}
use Rattle.cub_proto.specs.declared.protocol.Protocol.{Protocol}
use Rattle.cub_cube.specs.declared.cube.Cube.{Cube}
use Rattle.log_form.specs.declared.event.Added.{Added}
use Rattle.log_form.specs.declared.event.LogEvent.{LogEvent}
use Rattle.log_form.specs.declared.numbered.Numbered.{Numbered}
use Rattle.log_form.specs.Pieces.{PieceRelation}
use Rattle.log_form.specs.Legal.{Adds}
use Rattle.log_steps.specs.Pieces.{AreItsPieces}
use Rattle.log_steps.specs.declared.judgement.Pick.{Pick}
use Rattle.log_steps.specs.Judged.{added_of, ArePicks}
use Rattle.log_steps.specs.Admitted.{IsFirstUnfit}
use Rattle.cube_core.specs.declared.fault.AdmitFault.{AdmitFault}

-- the picks are of the list, and make the event: they are its items, or more than there is room for and as many as it says
pub record IsGiven (p : Protocol) (cubes : List Cube) (list : List Numbered) (event : LogEvent) (room : ℕ) (picks : List Pick) : Type 0 where
  pub are : ArePicks p cubes list picks
  pub makes : ((event.needed ≡ 0) × (length picks ≤ room) × (map added_of picks ≡ event.added))
      ⊎ ((room < length picks) × (event.added ≡ []) × (event.needed ≡ length picks))

-- no list that may be added makes the event
abbrev pub IsNotGiven : Protocol → List Cube → List Numbered → LogEvent → ℕ → AdmitFault → Type 0
IsNotGiven p cubes list event room (AdmitFault.Not None) =
    (event.needed ≢ 0) × ((xs : List Added) → Adds p cubes list xs → room < length xs → event.added ≡ [] → event.needed ≡ length xs → ⊥)
IsNotGiven p cubes list event room (AdmitFault.Not (Some added)) = (event.needed ≡ 0) × IsFirstUnfit p cubes list event.added room added
IsNotGiven p cubes list event room AdmitFault.Memory = Unit {0}

-- the same for the pieces of a cube
pub record IsGivenOf (P : PieceRelation) (p : Protocol) (cubes : List Cube) (c : Cube) (event : LogEvent) (room : ℕ) (picks : List Pick) : Type 0 where
  pub pieces : List Numbered
  pub its : AreItsPieces P p c pieces
  pub given : IsGiven p cubes pieces event room picks

-- want of memory may come before the pieces are known
abbrev pub IsNotGivenOf : PieceRelation → Protocol → List Cube → Cube → LogEvent → ℕ → AdmitFault → Type 0
IsNotGivenOf P p cubes c event room (AdmitFault.Not added) =
    (pieces : List Numbered) × AreItsPieces P p c pieces × IsNotGiven p cubes pieces event room (AdmitFault.Not added)
IsNotGivenOf P p cubes c event room AdmitFault.Memory = Unit {0}
