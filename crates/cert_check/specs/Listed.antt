-- Lists of pieces, and what holds of a piece by its place in one.
use Rattle.std.specs.Prelude.{◌≡◌, ℕ, List, Some, slice_get, Contains}
use Rattle.cub_proto.specs.declared.protocol.Protocol.{Protocol}
use Rattle.cub_proto.specs.declared.cover.CoverLine.{CoverLine}
use Rattle.cub_cube.specs.declared.cube.Cube.{Cube}
use Rattle.cub_cube.specs.Cover.{IsCovered}
use Rattle.theory_laws.specs.Fitting.{AreFitting}
use Rattle.piece_choices.specs.declared.piece.Piece.{Piece}
use Rattle.piece_choices.specs.Pieces.{IsPossible, ArePieces}
use Rattle.cert_check.specs.declared.keys.Key.TheVariants as Key
use Rattle.cert_check.specs.Named.{IsNamed}

-- some state meets the piece, and it can be asked
pub record IsAskable (p : Protocol) (x : Piece) : Type 0 where
  pub possible : IsPossible p x
  pub fitting : AreFitting p x.cube.width x.cube.lits

-- each cube has its list of pieces
abbrev pub AllListed : Protocol → List Cube → Type 0
AllListed p cubes = (c : Cube) → Contains cubes c → (xs : List Piece) × ArePieces p c xs

-- one cube covers the piece with that number
abbrev pub CoveredIn : Protocol → List Cube → List Piece → ℕ → Type 0
CoveredIn p cubes list n = (x : Piece) → slice_get list n ≡ Some x → IsCovered p cubes x.cube

-- a line names a cube that covers the piece with that number, of cube k
abbrev pub NamedIn : Protocol → List Cube → List CoverLine → ℕ → List Piece → ℕ → Type 0
NamedIn p cubes lines k list n = (x : Piece) → slice_get list n ≡ Some x → IsNamed p cubes lines (Key.Piece k n) x.cube
