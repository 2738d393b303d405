-- What may stand as a name, for the lexer, for the typing and for a protocol alike.
use Rattle.std.specs.Prelude.{ℕ, Bool, ◌&&◌, ◌||◌, ◌==◌, nat_le, not, false, List, [], ◌∷◌, length, codes, bytes_eq}
use Rattle.std.specs.List.{list_all}
use Rattle.std.specs.Char.{is_ascii_alphabetic, is_ascii_alphanumeric}

-- a name begins with a letter or an underscore
abbrev pub is_name_start : ℕ → Bool
is_name_start c = is_ascii_alphabetic c || c == 95

-- and goes on with letters, digits and underscores
abbrev pub is_name_byte : ℕ → Bool
is_name_byte c = is_ascii_alphanumeric c || c == 95

-- a start followed by name bytes
abbrev pub has_name_form : List ℕ → Bool
has_name_form [] = false
has_name_form (c ∷ cs) = is_name_start c && list_all is_name_byte cs

-- a name has at most 64 bytes, and the underscore alone is a sign of its own
abbrev pub is_name : List ℕ → Bool
is_name bytes = nat_le (length bytes) 64 && has_name_form bytes && not (bytes_eq bytes (codes "_"))

-- the words of the language that name nothing
abbrev pub is_reserved : List ℕ → Bool
is_reserved bytes =
    bytes_eq bytes (codes "type") || bytes_eq bytes (codes "var") || bytes_eq bytes (codes "array") ||
    bytes_eq bytes (codes "init") || bytes_eq bytes (codes "unsafe") || bytes_eq bytes (codes "invariant") ||
    bytes_eq bytes (codes "transition") || bytes_eq bytes (codes "requires") || bytes_eq bytes (codes "forall_other") ||
    bytes_eq bytes (codes "case") || bytes_eq bytes (codes "not") || bytes_eq bytes (codes "proc") ||
    bytes_eq bytes (codes "bool") || bytes_eq bytes (codes "int")

-- what a declaration may introduce
abbrev pub is_declarable : List ℕ → Bool
is_declarable bytes = is_name bytes && not (is_reserved bytes)
