-- Numbers as great as a piece has, with one spelling: digits without a leading zero.
use Rattle.std.specs.Prelude.{ℕ, ◌^◌, ◌&&◌, nat_lt, if◌then◌else◌, List, bytes_eq, decimal, Option, Some, None}
use Rattle.std.specs.Str.Parse.{digits_value}

-- the number below 2^128 that the bytes spell, if they spell one
abbrev pub number_of : List ℕ → Option ℕ
number_of bytes =
    if nat_lt (digits_value 10 bytes) (2 ^ 128) && bytes_eq bytes (decimal (digits_value 10 bytes)) then Some (digits_value 10 bytes) else None
