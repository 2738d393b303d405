-- Numbers: runs of digits, leading zeros allowed.
use Rattle.std.specs.Prelude.{ℕ, ◌+◌, ◌-◌, ◌*◌, List, [], ◌∷◌}

-- the number that the digits make behind `value`
abbrev pub value_from : ℕ → List ℕ → ℕ
value_from value [] = value
value_from value (digit ∷ digits) = value_from (10 * value + (digit - 48)) digits

-- the number that the digits spell
abbrev pub value_of : List ℕ → ℕ
value_of digits = value_from 0 digits
