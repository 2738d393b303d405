-- The test of a certificate: a list of cubes, and in version 2 lines that name for each obligation the cube that covers.
use Rattle.std.specs.Prelude.{◌≡◌, ℕ, List, Some, slice_get, Contains}
use Rattle.std.specs.List.{AllZip}
use Rattle.cub_proto.specs.declared.protocol.Goal.{Goal}
use Rattle.cub_proto.specs.declared.protocol.Protocol.{Protocol}
use Rattle.cub_proto.specs.declared.cover.CoverLine.{CoverLine}
use Rattle.cub_cube.specs.declared.cube.Cube.{Cube}
use Rattle.cub_cube.specs.Goals.{goal_cube}
use Rattle.cub_cube.specs.Starts.{IsStartCube}
use Rattle.cub_cube.specs.Meaning.{IsConsistent}
use Rattle.cub_cube.specs.Cover.{Covers, IsCovered}
use Rattle.piece_choices.specs.declared.piece.Piece.{Piece}
use Rattle.piece_choices.specs.Pieces.{candidates, IsPossible, ArePieces}

-- the test of version 1: no start state meets a cube, and one cube covers each consistent goal and each piece of a cube,
-- which is what its choices give where some state meets it
pub record PassesTest (p : Protocol) (cubes : List Cube) : Type 0 where
  pub start : (c : Cube) → Contains cubes c → IsStartCube p c → ⊥
  pub goals : (g : Goal) → Contains p.goals g → IsConsistent p g.width g.lits → IsCovered p cubes (goal_cube p g)
  pub pieces : (c : Cube) → Contains cubes c → (x : Piece) → Contains (candidates p c) x → IsPossible p x → IsCovered p cubes x.cube

-- the cube with that number covers by the injection
abbrev pub CoversAt : Protocol → List Cube → ℕ → Cube → List ℕ → Type 0
CoversAt p cubes by c places = (d : Cube) × (slice_get cubes by ≡ Some d) × Covers p d c places

-- a goal, and a piece of a cube, by their numbers
abbrev pub HasGoal : Protocol → ℕ → Goal → Type 0
HasGoal p n g = (slice_get p.goals n ≡ Some g) × IsConsistent p g.width g.lits

abbrev pub HasPiece : List (List Piece) → ℕ → ℕ → Piece → Type 0
HasPiece pieces k n x = (xs : List Piece) × (slice_get pieces k ≡ Some xs) × (slice_get xs n ≡ Some x)

-- the line is of an obligation
abbrev pub IsOfObligation : Protocol → List (List Piece) → CoverLine → Type 0
IsOfObligation p pieces (CoverLine.Unsafe goal by places) = (g : Goal) × HasGoal p goal g
IsOfObligation p pieces (CoverLine.Piece cube piece by places) = (x : Piece) × HasPiece pieces cube piece x

-- the test of version 2: each consistent goal and each piece has a line whose cube covers it by the injection of the
-- line, and each line is of an obligation
pub record PassesLines (p : Protocol) (cubes : List Cube) (lines : List CoverLine) : Type 0 where
  pub start : (c : Cube) → Contains cubes c → IsStartCube p c → ⊥
  pub goals : (n : ℕ) (g : Goal) → HasGoal p n g
      → (by : ℕ) × (places : List ℕ) × Contains lines (CoverLine.Unsafe n by places) × CoversAt p cubes by (goal_cube p g) places
  pub pieces : List (List Piece)
  pub are_pieces : AllZip (ArePieces p) cubes pieces
  pub covered : (k n : ℕ) (x : Piece) → HasPiece pieces k n x
      → (by : ℕ) × (places : List ℕ) × Contains lines (CoverLine.Piece k n by places) × CoversAt p cubes by x.cube places
  pub needed : (line : CoverLine) → Contains lines line → IsOfObligation p pieces line
