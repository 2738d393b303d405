-- What a contract sees of a shelf over files.
use Rattle.std.specs.Prelude.{ℕ}

-- how many bytes the last load took, and how often one failed
pub record FileCounts : Type 0 where
  pub taken : ℕ
  pub faults : ℕ
