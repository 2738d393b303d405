-- The sizes of the lists that a search works in.
use Rattle.std.specs.Prelude.{◌≡◌, ◌≤◌, ℕ, List, length}

pub record AreSizes (rank next cycle : List ℕ) (used : ℕ) : Type 0 where
  pub rank_size : length rank ≡ 105
  pub next_size : length next ≡ 105
  pub cycle_size : length cycle ≡ 105
  pub used_in : used ≤ 105
