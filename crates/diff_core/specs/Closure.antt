-- The closure of a list of constraints, as a table.
use Rattle.std.specs.Prelude.{ℕ, ◌<◌, ℤ, ◌≤ℤ◌, ◌<ℤ◌, List}
use Rattle.diff_core.specs.Constraints.{IsPath, Fits}
use Rattle.diff_core.specs.declared.constraint.Constraint.{Constraint}

-- entry e i j is the least sum of a path from node j to node i; there is no path where it is `far` or more
pub record IsClosure (cs : List Constraint) (n : ℕ) (far : ℤ) (e : ℕ → ℕ → ℤ) : Type 0 where
  pub inside : Fits n cs
  pub paths : (i j : ℕ) → i < n → j < n → e i j <ℤ far → (ks : List ℕ) × IsPath cs j ks i (e i j)
  pub near : (i j : ℕ) → i < n → j < n → (ks : List ℕ) (s : ℤ) → IsPath cs j ks i s → e i j <ℤ far
  pub least : (i j : ℕ) → i < n → j < n → (ks : List ℕ) (s : ℤ) → IsPath cs j ks i s → e i j ≤ℤ s
