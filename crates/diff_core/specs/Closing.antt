-- The value of a `Differences`: the table of the constraints that were taken, and the cycle that was found last.
use Rattle.std.specs.Prelude.{ℕ, List}
use Rattle.diff_core.specs.Table.{Table}

pub record Closing : Type 0 where
  pub table : Table
  pub cycle : List ℕ
