-- What a closure holds: the number of its nodes, and its entries row by row.
use Rattle.std.specs.Prelude.{◌≡◌, ◌≢◌, ℕ, ◌<◌, ◌≤◌, ◌+◌, ◌*◌, ℤ, pos, ◌+ℤ◌, ◌<ℤ◌, List, length, slice_index_or}
use Rattle.diff_core.specs.Closed.{Closed}
use Rattle.diff_core.specs.Closure.{IsClosure}
use Rattle.diff_core.specs.declared.constraint.Constraint.{Constraint}

-- the value of a `Closure`
pub record Table : Type 0 where
  pub nodes : ℕ
  pub entries : List ℤ

-- entry i, j of the rows
abbrev pub cell : List ℤ → ℕ → ℕ → ℤ
cell entries i j = slice_index_or entries (i * 105 + j) (pos 0)

-- what stands for no bound: 2 ^ 60
abbrev pub far : ℤ
far = pos 1152921504606846976

-- the table is the closure of these constraints
abbrev pub IsClosureOf : List Constraint → Table → Type 0
IsClosureOf cs t = IsClosure cs t.nodes far (cell t.entries)

-- what every table keeps
pub record IsTable (nodes : ℕ) (entries : List ℤ) : Type 0 where
  pub few : nodes ≤ 105
  pub size : length entries ≡ 11025
  pub closed : Closed nodes 281474976710656 far (cell entries)

-- the table of no constraints: 0 on the diagonal, and no bound elsewhere
abbrev pub IsFresh : ℕ → ℤ → (ℕ → ℕ → ℤ) → Type 0
IsFresh n far e = (i j : ℕ) → i < n → j < n → (i ≡ j → e i j ≡ pos 0) × (i ≢ j → e i j ≡ far)

-- there is a path back from the constraint's left node to its right one
abbrev pub IsNear : Table → Constraint → Type 0
IsNear t c = cell t.entries c.right c.left <ℤ far

-- that path and the constraint make a negative cycle
abbrev pub ClosesNegative : Table → Constraint → Type 0
ClosesNegative t c = (cell t.entries c.right c.left +ℤ c.bound) <ℤ pos 0
