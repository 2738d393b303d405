-- What a certificate has to cover.
use Rattle.std.specs.Prelude.{ℕ, List, ◌++◌, map}
use Rattle.std.specs.List.{flat_map}
use Rattle.cub_base.specs.Numbered.{map_from}
use Rattle.cub_cube.specs.declared.cube.Cube.{Cube}
use Rattle.piece_choices.specs.declared.piece.Piece.{Piece}
use Rattle.log_form.specs.declared.numbered.Numbered.{Numbered}

-- a consistent goal, or a piece of a cube, by their numbers, with its cube
pub data Obligation : Type 0 where
  OfGoal : (goal : ℕ) (cube : Cube) → Obligation
  OfPiece : (of piece : ℕ) (cube : Cube) → Obligation

abbrev pub goal_obligation : Numbered → Obligation
goal_obligation r = OfGoal r.number r.cube

abbrev pub piece_obligation : ℕ → ℕ → Piece → Obligation
piece_obligation of n x = OfPiece of n x.cube

-- those of the pieces of the cube with that number
abbrev pub piece_obligations : ℕ → List Piece → List Obligation
piece_obligations of xs = map_from (piece_obligation of) 0 xs

-- those of all cubes, in order
abbrev pub all_piece_obligations : List (List Piece) → List Obligation
all_piece_obligations pieces = flat_map (λ xs. xs) (map_from piece_obligations 0 pieces)

-- the consistent goals, and then the pieces
abbrev pub obligations : List Numbered → List (List Piece) → List Obligation
obligations roots pieces = map goal_obligation roots ++ all_piece_obligations pieces
