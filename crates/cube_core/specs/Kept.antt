-- What the type of logs keeps.
use Rattle.std.specs.Prelude.{ℕ, ◌≤◌, length}
use Rattle.log_form.specs.Pieces.{PieceRelation}
use Rattle.log_form.specs.Log.{LogValue}
use Rattle.log_form.specs.Legal.{IsLegalLog}
use Rattle.cube_core.specs.Waiting.{NoneOpenBefore}

-- the log is legal, and before that number no node may be expanded
pub record IsKept (P : PieceRelation) (log : LogValue) (next : ℕ) : Type 0 where
  pub legal : IsLegalLog P log
  pub inside : next ≤ length log.nodes
  pub none : NoneOpenBefore log.budget log.nodes next
