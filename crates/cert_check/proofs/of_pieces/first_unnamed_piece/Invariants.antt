use Rattle.std.proofs.Common.{◌≡◌, ℕ, ◌<◌, List, Some}
use Rattle.std.specs.Prelude.{slice_get}
use Rattle.cub_cube.specs.declared.cube.Cube.{Cube}
use Rattle.theory.specs.Made.{IsFor}
use Rattle.piece_choices.specs.declared.piece.Piece.{Piece}
use Rattle.piece_choices.specs.Pieces.{ArePieces}
use Rattle.cert_check.specs.declared.keys.Key.{Key}
use Rattle.cert_check.specs.Obligations.{PieceNamed, IsOwed}
use Rattle.cert_check.specs.Walked.{HasCome}
use Rattle.cert_check.proofs.of_pieces.first_unnamed_piece.Given as goal

abbrev pub invariant-loop-k : goal.invariant-loop-k
invariant-loop-k l = record {
  made : IsFor l.protocol l.scratch;
  come : HasCome (IsOwed l.protocol l.cubes) l.lines (Key.Piece l.k 0) l.cursor;
  listed : (j : ℕ) → j < l.k → (c : Cube) → slice_get l.cubes j ≡ Some c → (xs : List Piece) × ArePieces l.protocol c xs;
  hold : (j : ℕ) → j < l.k → (m : ℕ) → PieceNamed l.protocol l.cubes l.lines j m;
}
