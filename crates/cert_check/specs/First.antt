-- The first number, and the first pair of numbers, that lacks a property.
use Rattle.std.specs.Prelude.{ℕ, ◌<◌}

-- the first number that lacks it
pub record IsFirstWithout (Holds : ℕ → Type 0) (n : ℕ) : Type 0 where
  pub before : (k : ℕ) → k < n → Holds k
  pub fails : Holds n → ⊥

-- the first pair that lacks it, where the first number counts before the second
pub record IsFirstPairWithout (Holds : ℕ → ℕ → Type 0) (k n : ℕ) : Type 0 where
  pub earlier : (i m : ℕ) → i < k → Holds i m
  pub here : IsFirstWithout (Holds k) n
