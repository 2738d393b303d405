-- Numbers, each with one spelling: no plus, no leading zero, no minus before 0.
use Rattle.std.specs.Prelude.{ℕ, ◌+◌, ◌-◌, ◌^◌, Bool, ◌&&◌, ◌==◌, nat_lt, min, if◌then◌else◌, List, [], ◌∷◌, bytes_eq, decimal, Option, Some, None, unwrap_or, option_map, option_and_then, ℤ, pos, neg_ℤ}
use Rattle.std.specs.Str.Parse.{digits_value}

-- the number below 2^64 that the bytes spell, if they spell one
abbrev pub natural_of : List ℕ → Option ℕ
natural_of bytes =
    if nat_lt (digits_value 10 bytes) (2 ^ 64) && bytes_eq bytes (decimal (digits_value 10 bytes)) then Some (digits_value 10 bytes) else None

-- the number, negated; none for 0 and where it is above the limit of a signed number
abbrev pub negative : ℕ → Option ℤ
negative n = if nat_lt 0 n && nat_lt n (2 ^ 63) then Some (neg_ℤ (pos n)) else None

abbrev pub positive : ℕ → Option ℤ
positive n = if nat_lt n (2 ^ 63) then Some (pos n) else None

-- the integer below 2^63 in size that the bytes spell, if they spell one
abbrev pub integer_of : List ℕ → Option ℤ
integer_of [] = None
integer_of (b ∷ bs) =
    if b == 45 then option_and_then negative (natural_of bs) else option_and_then positive (natural_of (b ∷ bs))

-- what is written as a number counted from 1, counted from 0; 0 where no number is written
abbrev pub counted : List ℕ → ℕ
counted bytes = min (unwrap_or (natural_of bytes) 0 - 1) 4294967295
