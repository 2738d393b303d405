-- The obligations of a certificate, by their numbers, and when each holds. Numbers count from 0; a number that names
-- nothing is no obligation, and asks for nothing.
use Rattle.std.specs.Prelude.{◌≡◌, ℕ, List, Some, slice_get, Contains}
use Rattle.cub_proto.specs.declared.protocol.Goal.{Goal}
use Rattle.cub_proto.specs.declared.protocol.Protocol.{Protocol}
use Rattle.cub_proto.specs.declared.cover.CoverLine.{CoverLine}
use Rattle.cub_cube.specs.declared.cube.Cube.{Cube}
use Rattle.cub_cube.specs.Goals.{goal_cube}
use Rattle.cub_cube.specs.Starts.{IsStartCube}
use Rattle.cub_cube.specs.Cover.{IsCovered}
use Rattle.piece_choices.specs.declared.piece.Piece.{Piece}
use Rattle.piece_choices.specs.Pieces.{ArePieces}
use Rattle.piece_laws.specs.Test.{CoversAt, HasGoal}
use Rattle.cert_check.specs.declared.keys.Key.{Key}
use Rattle.cert_check.specs.Keys.{key_of}

-- no start state meets the cube with that number
abbrev pub StartHolds : Protocol → List Cube → ℕ → Type 0
StartHolds p cubes k = (c : Cube) → slice_get cubes k ≡ Some c → IsStartCube p c → ⊥

-- the piece with that number, of the cube with that number
pub record IsPiece (p : Protocol) (cubes : List Cube) (k n : ℕ) (x : Piece) : Type 0 where
  pub cube : Cube
  pub its : slice_get cubes k ≡ Some cube
  pub pieces : List Piece
  pub all : ArePieces p cube pieces
  pub there : slice_get pieces n ≡ Some x

-- version 1: one cube covers the goal with that number, where some state meets it; and a piece
abbrev pub GoalCovered : Protocol → List Cube → ℕ → Type 0
GoalCovered p cubes n = (g : Goal) → HasGoal p n g → IsCovered p cubes (goal_cube p g)

abbrev pub PieceCovered : Protocol → List Cube → ℕ → ℕ → Type 0
PieceCovered p cubes k n = (x : Piece) → IsPiece p cubes k n x → IsCovered p cubes x.cube

-- version 2: a line is about it, whose cube covers it by the places of the line
abbrev pub GoalNamed : Protocol → List Cube → List CoverLine → ℕ → Type 0
GoalNamed p cubes lines n = (g : Goal) → HasGoal p n g
    → (by : ℕ) × (places : List ℕ) × Contains lines (CoverLine.Unsafe n by places) × CoversAt p cubes by (goal_cube p g) places

abbrev pub PieceNamed : Protocol → List Cube → List CoverLine → ℕ → ℕ → Type 0
PieceNamed p cubes lines k n = (x : Piece) → IsPiece p cubes k n x
    → (by : ℕ) × (places : List ℕ) × Contains lines (CoverLine.Piece k n by places) × CoversAt p cubes by x.cube places

-- there is such an obligation
abbrev pub IsOwed : Protocol → List Cube → Key → Type 0
IsOwed p cubes (Key.Goal n) = (g : Goal) × HasGoal p n g
IsOwed p cubes (Key.Piece k n) = (x : Piece) × IsPiece p cubes k n x

-- the line with that number is about an obligation
abbrev pub LineNeeded : Protocol → List Cube → List CoverLine → ℕ → Type 0
LineNeeded p cubes lines l = (line : CoverLine) → slice_get lines l ≡ Some line → IsOwed p cubes (key_of line)
