-- What a refusal says: it names the first obligation that fails, or where none does the first cover line of none.
use Rattle.std.specs.Prelude.{ℕ, List}
use Rattle.cub_proto.specs.declared.protocol.Protocol.{Protocol}
use Rattle.cub_proto.specs.declared.cover.CoverLine.{CoverLine}
use Rattle.cub_cube.specs.declared.cube.Cube.{Cube}
use Rattle.cert_check.specs.declared.refused.Refused.{Refused}
use Rattle.cert_check.specs.declared.refused.Refused.TheVariants.{Start, Unsafe, Piece, Extra, Memory}
use Rattle.cert_check.specs.First.{IsFirstWithout, IsFirstPairWithout}
use Rattle.cert_check.specs.Obligations.{StartHolds, GoalCovered, PieceCovered, GoalNamed, PieceNamed, LineNeeded}

-- all start obligations hold
abbrev pub StartsHold : Protocol → List Cube → Type 0
StartsHold p cubes = (k : ℕ) → StartHolds p cubes k

-- all obligations of version 1 on goals; on pieces
abbrev pub GoalsCovered : Protocol → List Cube → Type 0
GoalsCovered p cubes = (n : ℕ) → GoalCovered p cubes n

abbrev pub PiecesCovered : Protocol → List Cube → Type 0
PiecesCovered p cubes = (k n : ℕ) → PieceCovered p cubes k n

-- all obligations of version 2 on goals; on pieces
abbrev pub GoalsNamed : Protocol → List Cube → List CoverLine → Type 0
GoalsNamed p cubes lines = (n : ℕ) → GoalNamed p cubes lines n

abbrev pub PiecesNamed : Protocol → List Cube → List CoverLine → Type 0
PiecesNamed p cubes lines = (k n : ℕ) → PieceNamed p cubes lines k n

-- version 1: the refusal names the first obligation that fails. Want of memory says nothing
abbrev pub FailsFirst : Protocol → List Cube → Refused → Type 0
FailsFirst p cubes (Start k) = IsFirstWithout (StartHolds p cubes) k
FailsFirst p cubes (Unsafe n) = StartsHold p cubes × IsFirstWithout (GoalCovered p cubes) n
FailsFirst p cubes (Piece k n) = StartsHold p cubes × GoalsCovered p cubes × IsFirstPairWithout (PieceCovered p cubes) k n
FailsFirst p cubes (Extra l) = ⊥
FailsFirst p cubes Memory = Unit {0}

-- version 2: so too, and where all obligations hold the first line that is about none
abbrev pub FailsFirstOrExtra : Protocol → List Cube → List CoverLine → Refused → Type 0
FailsFirstOrExtra p cubes lines (Start k) = IsFirstWithout (StartHolds p cubes) k
FailsFirstOrExtra p cubes lines (Unsafe n) = StartsHold p cubes × IsFirstWithout (GoalNamed p cubes lines) n
FailsFirstOrExtra p cubes lines (Piece k n) =
    StartsHold p cubes × GoalsNamed p cubes lines × IsFirstPairWithout (PieceNamed p cubes lines) k n
FailsFirstOrExtra p cubes lines (Extra l) =
    StartsHold p cubes × GoalsNamed p cubes lines × PiecesNamed p cubes lines × IsFirstWithout (LineNeeded p cubes lines) l
FailsFirstOrExtra p cubes lines Memory = Unit {0}
