-- Lines that are appended.
use Rattle.std.specs.Prelude.{◌≡◌, ◌⊎◌, ℕ, ◌<◌, ◌^◌, List, [], ◌∷◌, ◌++◌, length, map, All, Contains}
use Rattle.std.specs.List.{AllZip}
use Rattle.cub_proto.specs.declared.cover.CoverLine.{CoverLine}
use Rattle.cub_proto.specs.declared.protocol.Goal.{Goal}
use Rattle.cub_proto.specs.declared.protocol.Protocol.{Protocol}
use Rattle.cub_cube.specs.declared.cube.Cube.{Cube}
use Rattle.cub_cube.specs.Goals.{goal_cube}
use Rattle.cub_cube.specs.Kept.{Keeps}
use Rattle.cub_cube.specs.Meaning.{IsConsistent}
use Rattle.cub_cube.specs.Cover.{IsCovered}
use Rattle.piece_choices.specs.declared.piece.Piece.{Piece}
use Rattle.piece_choices.specs.Pieces.{ArePieces}
use Rattle.log_form.specs.declared.numbered.Numbered.{Numbered}
use Rattle.log_form.specs.Numbering.{numbered}
use Rattle.log_form.specs.Pieces.{IsAskable}
use Rattle.log_form.specs.Links.{cube_at}
use Rattle.cover_lines.specs.Obligations.{Obligation, OfGoal, goal_obligation, piece_obligations, all_piece_obligations}
use Rattle.cover_lines.specs.Lines.{IsLineOf}

-- the cube may be asked about, and some cube of the list covers it
pub record MayCover (p : Protocol) (cubes : List Cube) (c : Cube) : Type 0 where
  pub fit : IsAskable p c
  pub covered : IsCovered p cubes c

-- one line for each of these obligations, in order
pub record AddsLines (p : Protocol) (cubes : List Cube) (list : List Obligation) (old new : List CoverLine) : Type 0 where
  pub own : List CoverLine
  pub are : AllZip (IsLineOf p cubes) list own
  pub added : new ≡ old ++ own

-- the line of one
abbrev pub AddsLine : Protocol → List Cube → Obligation → List CoverLine → List CoverLine → Type 0
AddsLine p cubes o old new = AddsLines p cubes (o ∷ []) old new

-- some state meets the goal as a cube
abbrev pub IsPossibleGoal : Protocol → Goal → Type 0
IsPossibleGoal p g = IsConsistent p g.width (goal_cube p g).lits

-- the line of a goal with its number, where some state meets the goal
abbrev pub AddsGoalLine : Protocol → List Cube → ℕ → Goal → List CoverLine → List CoverLine → Type 0
AddsGoalLine p cubes n g old new =
    (IsPossibleGoal p g × AddsLine p cubes (OfGoal n (goal_cube p g)) old new) ⊎ ((IsPossibleGoal p g → ⊥) × (new ≡ old))

-- a line for each goal that some state meets
pub record AddsGoalLines (p : Protocol) (cubes : List Cube) (goals : List Goal) (old new : List CoverLine) : Type 0 where
  pub roots : List Numbered
  pub are : Keeps (λ r. IsConsistent p r.cube.width r.cube.lits) (numbered (map (goal_cube p) goals)) roots
  pub lines : AddsLines p cubes (map goal_obligation roots) old new

-- each goal that some state meets is covered
abbrev pub AreGoalsCovered : Protocol → List Cube → Type 0
AreGoalsCovered p cubes = (g : Goal) → Contains p.goals g → IsPossibleGoal p g → IsCovered p cubes (goal_cube p g)

-- a line for each piece of the cube with that number
pub record AddsCubeLines (p : Protocol) (cubes : List Cube) (of : ℕ) (old new : List CoverLine) : Type 0 where
  pub pieces : List Piece
  pub are : ArePieces p (cube_at cubes of) pieces
  pub few : length pieces < 2 ^ 64
  pub lines : AddsLines p cubes (piece_obligations of pieces) old new

-- a line for each piece of the first cubes
pub record AddsPieceLines (p : Protocol) (cubes first : List Cube) (old new : List CoverLine) : Type 0 where
  pub pieces : List (List Piece)
  pub are : AllZip (ArePieces p) first pieces
  pub few : All (λ xs. length xs < 2 ^ 64) pieces
  pub lines : AddsLines p cubes (all_piece_obligations pieces) old new
