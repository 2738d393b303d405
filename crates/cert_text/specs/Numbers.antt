-- Numbers of a certificate: digits without a leading zero, as great as one likes; those from 1 to 2^64 can name something.
use Rattle.std.specs.Prelude.{ℕ, ◌-◌, ◌^◌, Bool, true, false, ◌&&◌, nat_lt, nat_le, if◌then◌else◌, List, bytes_eq, decimal, Option, Some, None, option_and_then}
use Rattle.std.specs.Str.Parse.{digits_value}

-- the number below 2^128 that the bytes spell, if they spell one
abbrev pub number_of : List ℕ → Option ℕ
number_of bytes =
    if nat_lt (digits_value 10 bytes) (2 ^ 128) && bytes_eq bytes (decimal (digits_value 10 bytes)) then Some (digits_value 10 bytes) else None

-- counted from 0, below the limit
abbrev pub index_of : ℕ → ℕ → Option ℕ
index_of limit n = if nat_lt 0 n && nat_le n limit then Some (n - 1) else None

abbrev pub index_in : ℕ → List ℕ → Option ℕ
index_in limit bytes = option_and_then (index_of limit) (number_of bytes)

-- a number that can't be read is greater than all that can
abbrev pub is_below : ℕ → Option ℕ → Bool
is_below n None = true
is_below n (Some m) = nat_lt n m

abbrev pub is_same : ℕ → Option ℕ → Bool
is_same n None = false
is_same n (Some m) = nat_le n m && nat_le m n
