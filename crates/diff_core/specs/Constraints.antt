-- Difference constraints over numbered nodes: their solutions, what they entail, and the paths that they form.
use Rattle.std.specs.Prelude.{◌≡◌, ℕ, ◌<◌, ℤ, pos, ◌-ℤ◌, ◌≤ℤ◌, ◌<ℤ◌, List, [], ◌∷◌, length, Option, MatchOption, slice_index_or, All}
use Rattle.diff_core.specs.declared.constraint.Constraint.{Constraint}

-- constraint k of a list
abbrev pub constraint_at : List Constraint → ℕ → Constraint
constraint_at cs k = slice_index_or cs k (record { left = 0; right = 0; bound = pos 0 })

-- these integers satisfy each constraint
abbrev pub Solves : (ℕ → ℤ) → List Constraint → Type 0
Solves v cs = (k : ℕ) → k < length cs → (v (constraint_at cs k).left -ℤ v (constraint_at cs k).right) ≤ℤ (constraint_at cs k).bound

-- some integers satisfy the constraints
abbrev pub HasSolution : List Constraint → Type 0
HasSolution cs = (v : ℕ → ℤ) × Solves v cs

-- each solution has `a - b <= bound`
abbrev pub Entails : List Constraint → ℕ → ℕ → ℤ → Type 0
Entails cs a b bound = (v : ℕ → ℤ) → Solves v cs → (v a -ℤ v b) ≤ℤ bound

-- the least bound of `a - b` that the constraints entail, or None where they entail none
abbrev pub IsLeastBound : List Constraint → ℕ → ℕ → Option ℤ → Type 0
IsLeastBound cs a b found =
    MatchOption found ((l : ℤ) → Entails cs a b l → ⊥) (λ k. Entails cs a b k × ((l : ℤ) → Entails cs a b l → k ≤ℤ l))

-- the constraints with these numbers lead, in this order, from node x to node y, and their bounds have this sum:
-- a constraint leads from its right node to its left one
abbrev pub IsPath : List Constraint → ℕ → List ℕ → ℕ → ℤ → Type 0
IsPath cs x [] y s = (x ≡ y) × (s ≡ pos 0)
IsPath cs x (k ∷ ks) y s =
    (k < length cs) × ((constraint_at cs k).right ≡ x) × IsPath cs (constraint_at cs k).left ks y (s -ℤ (constraint_at cs k).bound)

-- the constraints with these numbers form, in this order, a closed path with a negative sum
abbrev pub IsNegativeCycle : List Constraint → List ℕ → Type 0
IsNegativeCycle cs ks = (x : ℕ) × (s : ℤ) × IsPath cs x ks x s × (s <ℤ pos 0)

-- the least sum of a path that ends at node y; the empty path is one
pub record IsLeastSum (cs : List Constraint) (y : ℕ) (s : ℤ) : Type 0 where
  pub reached : (x : ℕ) × (ks : List ℕ) × IsPath cs x ks y s
  pub least : (x : ℕ) (ks : List ℕ) (t : ℤ) → IsPath cs x ks y t → s ≤ℤ t

-- each constraint is between the first nodes
abbrev pub Fits : ℕ → List Constraint → Type 0
Fits nodes cs = (k : ℕ) → k < length cs → ((constraint_at cs k).left < nodes) × ((constraint_at cs k).right < nodes)

-- the constraint is between the first nodes, and its bound is at most 2 ^ 48 in size
pub record IsInRange (nodes : ℕ) (c : Constraint) : Type 0 where
  pub left_in : c.left < nodes
  pub right_in : c.right < nodes
  pub at_least : (pos 0 -ℤ c.bound) ≤ℤ pos 281474976710656
  pub at_most : c.bound ≤ℤ pos 281474976710656

-- each constraint is
abbrev pub AreInRange : ℕ → List Constraint → Type 0
AreInRange nodes cs = (k : ℕ) → k < length cs → IsInRange nodes (constraint_at cs k)

-- the constraint is no `x - x <= d` that every number satisfies
abbrev pub IsProper : Constraint → Type 0
IsProper c = c.left ≡ c.right → c.bound <ℤ pos 0

-- so is each constraint with one of these numbers
abbrev pub AreProper : List Constraint → List ℕ → Type 0
AreProper cs ks = All (λ k. IsProper (constraint_at cs k)) ks
