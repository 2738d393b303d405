-- The search for a shortest path in a closed table, backwards from its end: a node is marked once a tight constraint
-- leads from it to a marked node. Its rank says when that was, 0 where it is not marked, and `next` by which constraint.
use Rattle.std.specs.Prelude.{◌≡◌, ◌≢◌, ℕ, ◌<◌, ◌≤◌, nat_lt, ℤ, pos, ◌+ℤ◌, ◌<ℤ◌, List, length, take}
use Rattle.diff_core.specs.declared.constraint.Constraint.{Constraint}
use Rattle.diff_core.specs.Constraints.{constraint_at}
use Rattle.diff_core.specs.Closed.{count}

-- a shortest path from the constraint's right node to the target goes over it
abbrev pub IsTight : (ℕ → ℕ → ℤ) → ℕ → Constraint → Type 0
IsTight e target c = e target c.right ≡ c.bound +ℤ e target c.left

-- from node x the path goes on, by constraint k, to a node that was marked before
pub record Onward (cs : List Constraint) (e : ℕ → ℕ → ℤ) (n target : ℕ) (rank : ℕ → ℕ) (k x : ℕ) : Type 0 where
  pub number_in : k < length cs
  pub right_is : (constraint_at cs k).right ≡ x
  pub left_in : (constraint_at cs k).left < n
  pub tight : IsTight e target (constraint_at cs k)
  pub marked : 0 < rank (constraint_at cs k).left
  pub before : rank (constraint_at cs k).left < rank x

-- a search that has marked this many nodes
pub record IsSearch (cs : List Constraint) (e : ℕ → ℕ → ℤ) (n target steps : ℕ) (rank next : ℕ → ℕ) : Type 0 where
  pub start : 0 < rank target
  pub onward : (x : ℕ) → x < n → 0 < rank x → x ≢ target → Onward cs e n target rank (next x) x
  pub ranks : (x : ℕ) → x < n → rank x ≤ steps
  pub counted : steps ≡ count n (λ x. nat_lt 0 (rank x))

-- nothing is left to mark by this constraint
abbrev pub IsDoneAt : ℤ → (ℕ → ℕ → ℤ) → ℕ → (ℕ → ℕ) → Constraint → Type 0
IsDoneAt far e target rank c = 0 < rank c.left → e target c.left <ℤ far → IsTight e target c → 0 < rank c.right

-- a search by the first constraints that has arrived at the left node of the next one, which makes a negative cycle
pub record HasArrived (all : List Constraint) (n failed : ℕ) (rank next : ℕ → ℕ) : Type 0 where
  pub entries : ℕ → ℕ → ℤ
  pub steps : ℕ
  pub few : steps ≤ 105
  pub found : IsSearch (take failed all) entries n (constraint_at all failed).right steps rank next
  pub marked : 0 < rank (constraint_at all failed).left
  pub diagonal : entries (constraint_at all failed).right (constraint_at all failed).right ≡ pos 0
  pub negative : (entries (constraint_at all failed).right (constraint_at all failed).left +ℤ (constraint_at all failed).bound) <ℤ pos 0
