-- What one more constraint `a - b <= d` does to a table: each entry stays, or falls to the way over the constraint.
use Rattle.std.specs.Prelude.{◌≡◌, ℕ, ◌<◌, ◌⊎◌, ◌*◌, ℤ, pos, ◌+ℤ◌, ◌-ℤ◌, ◌≤ℤ◌, ◌<ℤ◌}
use Rattle.diff_core.specs.Closed.{Closed}
use Rattle.diff_core.specs.Table.{far as no_bound}

-- the entry stays, and the way over the constraint is not shorter
pub record Kept (far : ℤ) (e f : ℕ → ℕ → ℤ) (a b : ℕ) (d : ℤ) (i j : ℕ) : Type 0 where
  pub same : f i j ≡ e i j
  pub past : e i a <ℤ far → e b j <ℤ far → e i j ≤ℤ (e i a +ℤ d +ℤ e b j)

-- the entry falls to the way over the constraint
pub record Led (far : ℤ) (e f : ℕ → ℕ → ℤ) (a b : ℕ) (d : ℤ) (i j : ℕ) : Type 0 where
  pub to : e i a <ℤ far
  pub from : e b j <ℤ far
  pub sum : f i j ≡ e i a +ℤ d +ℤ e b j
  pub less : f i j <ℤ e i j

-- each entry does one of the two
abbrev pub Relaxes : ℕ → ℤ → (ℕ → ℕ → ℤ) → (ℕ → ℕ → ℤ) → ℕ → ℕ → ℤ → Type 0
Relaxes n far e f a b d = (i j : ℕ) → i < n → j < n → Kept far e f a b d i j ⊎ Led far e f a b d i j

-- where a step is made: between nodes of the table, with a small bound, and no negative cycle
pub record Step (n c : ℕ) (far : ℤ) (e : ℕ → ℕ → ℤ) (a b : ℕ) (d : ℤ) : Type 0 where
  pub closed : Closed n c far e
  pub wide : pos (2 * (c * n)) <ℤ far
  pub a_in : a < n
  pub b_in : b < n
  pub at_most : d ≤ℤ pos c
  pub at_least : (pos 0 -ℤ d) ≤ℤ pos c
  pub acyclic : e b a <ℤ far → pos 0 ≤ℤ (e b a +ℤ d)

-- the number stays where the sum `first + rest` is none or is not less, and else falls to it
abbrev pub Lowers : ℤ → ℤ → ℤ → ℤ → Type 0
Lowers old new first rest =
    ((new ≡ old) × (rest <ℤ no_bound → old ≤ℤ (first +ℤ rest))) ⊎ ((rest <ℤ no_bound) × (new ≡ first +ℤ rest) × (new <ℤ old))
