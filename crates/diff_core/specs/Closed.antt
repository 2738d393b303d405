-- A closed table of bounds: each entry is at most any sum over a middle node. Its entries stay small since a least
-- way visits a node at most once: each entry has a set of nodes on its way, a function to Bool, and their count
-- bounds it.
use Rattle.std.specs.Prelude.{◌≡◌, ℕ, ◌<◌, ◌+◌, ◌*◌, Bool, true, cond, zero, suc, ℤ, pos, ◌+ℤ◌, ◌-ℤ◌, ◌≤ℤ◌, ◌<ℤ◌}

-- how many of the first n nodes are in the set
abbrev pub count : ℕ → (ℕ → Bool) → ℕ
count zero s = 0
count (suc n) s = count n s + cond (s n) 1 0

-- node x is on a least way from j to i
pub record Between (far : ℤ) (e : ℕ → ℕ → ℤ) (i x j : ℕ) : Type 0 where
  pub to : e i x <ℤ far
  pub from : e x j <ℤ far
  pub on : (e i x +ℤ e x j) ≤ℤ e i j

-- an entry with a set of nodes on its way, whose count bounds it
pub record Simple (n c : ℕ) (far : ℤ) (e : ℕ → ℕ → ℤ) (i j : ℕ) : Type 0 where
  pub visited : ℕ → Bool
  pub between : (x : ℕ) → x < n → visited x ≡ true → Between far e i x j
  pub above : (e i j +ℤ pos c) ≤ℤ pos (c * count n visited)
  pub below : (pos c -ℤ e i j) ≤ℤ pos (c * count n visited)

-- what every table keeps: `far` stands for no bound
pub record Closed (n c : ℕ) (far : ℤ) (e : ℕ → ℕ → ℤ) : Type 0 where
  pub diagonal : (i : ℕ) → i < n → e i i ≡ pos 0
  pub joined : (i k j : ℕ) → i < n → k < n → j < n → e i k <ℤ far → e k j <ℤ far → e i j ≤ℤ (e i k +ℤ e k j)
  pub simple : (i j : ℕ) → i < n → j < n → e i j <ℤ far → Simple n c far e i j
