-- A value never gets smaller by a further digit.
use Rattle.std.proofs.Common.{◌≡◌, ℕ, ◌+◌, ◌-◌, ◌*◌, ◌≤◌, List, [], ◌∷◌, arith}
use Rattle.cub_lexer.specs.Number.{value_from}

pub value_grows : (value : ℕ) (digits : List ℕ) → value ≤ value_from value digits
value_grows value [] = omega arith
value_grows value (digit ∷ digits) = omega (arith, value_grows (10 * value + (digit - 48)) digits)
