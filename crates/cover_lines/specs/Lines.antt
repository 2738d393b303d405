-- The cover lines of a list of cubes.
use Rattle.std.specs.Prelude.{◌≡◌, ℕ, List, length, Some}
use Rattle.std.specs.List.{AllZip}
use Rattle.cub_proto.specs.declared.cover.CoverLine.{CoverLine}
use Rattle.cub_proto.specs.declared.protocol.Protocol.{Protocol}
use Rattle.cub_cube.specs.declared.cube.Cube.{Cube}
use Rattle.piece_choices.specs.declared.piece.Piece.{Piece}
use Rattle.piece_choices.specs.Pieces.{ArePieces}
use Rattle.log_form.specs.declared.numbered.Numbered.{Numbered}
use Rattle.log_form.specs.Numbering.{AreRoots}
use Rattle.log_form.specs.Links.{IsFirstCover}
use Rattle.cover_lines.specs.Obligations.{Obligation, OfGoal, OfPiece, obligations}

-- the cube with that number is the first of the list that covers, and these are the least places
abbrev pub IsFirstOf : Protocol → List Cube → Cube → ℕ → List ℕ → Type 0
IsFirstOf p cubes c by places = IsFirstCover p cubes 0 (length cubes) c (Some (by, places))

-- the line of an obligation
abbrev pub IsLineOf : Protocol → List Cube → Obligation → CoverLine → Type 0
IsLineOf p cubes (OfGoal n c) (CoverLine.Unsafe goal by places) = (goal ≡ n) × IsFirstOf p cubes c by places
IsLineOf p cubes (OfGoal n c) (CoverLine.Piece cube piece by places) = ⊥
IsLineOf p cubes (OfPiece of n c) (CoverLine.Unsafe goal by places) = ⊥
IsLineOf p cubes (OfPiece of n c) (CoverLine.Piece cube piece by places) = (cube ≡ of) × (piece ≡ n) × IsFirstOf p cubes c by places

-- one line for each obligation, in order
pub record AreCoverLines (p : Protocol) (cubes : List Cube) (lines : List CoverLine) : Type 0 where
  pub roots : List Numbered
  pub are_roots : AreRoots p roots
  pub pieces : List (List Piece)
  pub are_pieces : AllZip (ArePieces p) cubes pieces
  pub one_each : AllZip (IsLineOf p cubes) (obligations roots pieces) lines
