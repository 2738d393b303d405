-- Masks where one number has one constructor.
use Rattle.std.specs.Prelude.{◌≡◌, ℕ, ◌^◌, List, length, slice_index}

-- the number `at` has constructor c alone, the others what they had
pub record IsTried (old : List ℕ) (at c : ℕ) (new : List ℕ) : Type 0 where
  pub size : length new ≡ length old
  pub here : slice_index new at ≡ 2 ^ c
  pub others : (n : ℕ) → (n ≡ at → ⊥) → slice_index new n ≡ slice_index old n
