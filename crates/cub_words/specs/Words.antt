-- Words alone: what they look like.
use Rattle.std.specs.Prelude.{ℕ, ◌+◌, Bool, true, ◌&&◌, ◌==◌, nat_le, List, [], ◌∷◌, Option, Some, None, length, take, drop, position, unwrap_or, option_map, if◌then◌else◌}
use Rattle.std.specs.List.{list_all}
use Rattle.std.specs.Char.{is_ascii_digit}
use Rattle.cub_lexer.specs.Number.{value_of}

-- it has 1 to 9 bytes, all of them digits
abbrev pub is_number : List ℕ → Bool
is_number word = nat_le 1 (length word) && nat_le (length word) 9 && list_all is_ascii_digit word

-- the number that it is, where it is one within the range
abbrev pub number_within : ℕ → ℕ → List ℕ → Option ℕ
number_within least greatest word =
    if is_number word && nat_le least (value_of word) && nat_le (value_of word) greatest then Some (value_of word) else None

-- it is empty or begins with a dash, so it is no name
abbrev pub is_marked : List ℕ → Bool
is_marked [] = true
is_marked (byte ∷ bytes) = byte == 45

-- where its first equals sign stands
abbrev pub sign_at : List ℕ → Option ℕ
sign_at word = position (λ byte. byte == 61) word

-- what stands before that sign, or all of it
abbrev pub name_part : List ℕ → List ℕ
name_part word = take (unwrap_or (sign_at word) (length word)) word

-- what stands behind that sign, if there is one
abbrev pub value_part : List ℕ → Option (List ℕ)
value_part word = option_map (λ at. drop (at + 1) word) (sign_at word)
