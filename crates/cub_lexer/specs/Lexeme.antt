-- What a run of bytes is when it is one token: a word, a number or a sign, by its first byte.
use Rattle.std.specs.Prelude.{ℕ, Bool, ◌&&◌, ◌==◌, if◌then◌else◌, List, [], ◌∷◌, Option, Some, None, codes, bytes_eq}
use Rattle.std.specs.List.{list_all}
use Rattle.std.specs.Char.{is_ascii_digit}
use Rattle.cub_base.specs.Name.{is_name_start, is_name_byte}
use Rattle.cub_lexer.specs.declared.token.TokenKind.{TokenKind}
use Rattle.cub_lexer.specs.declared.token.TokenKind.TheVariants.{Name, Number, TypeWord, VarWord, ArrayWord, InitWord, UnsafeWord, InvariantWord, TransitionWord, RequiresWord, ForallOtherWord, CaseWord, NotWord, ProcWord, BoolWord, IntWord, BraceOpen, BraceClose, ParenOpen, ParenClose, BracketOpen, BracketClose, Bar, Colon, Semicolon, Dot, Comma, Equal, Less, Greater, Plus, Minus, Star, Question, Assign, NotEqual, LessOrEqual, GreaterOrEqual, And, Or, Underscore}

-- a word is a reserved word, the underscore alone, or a name
unfoldable pub word_kind : List ℕ → TokenKind
word_kind bytes =
    if bytes_eq bytes (codes "type") then TypeWord else (
    if bytes_eq bytes (codes "var") then VarWord else (
    if bytes_eq bytes (codes "array") then ArrayWord else (
    if bytes_eq bytes (codes "init") then InitWord else (
    if bytes_eq bytes (codes "unsafe") then UnsafeWord else (
    if bytes_eq bytes (codes "invariant") then InvariantWord else (
    if bytes_eq bytes (codes "transition") then TransitionWord else (
    if bytes_eq bytes (codes "requires") then RequiresWord else (
    if bytes_eq bytes (codes "forall_other") then ForallOtherWord else (
    if bytes_eq bytes (codes "case") then CaseWord else (
    if bytes_eq bytes (codes "not") then NotWord else (
    if bytes_eq bytes (codes "proc") then ProcWord else (
    if bytes_eq bytes (codes "bool") then BoolWord else (
    if bytes_eq bytes (codes "int") then IntWord else (
    if bytes_eq bytes (codes "_") then Underscore else (
    Name)))))))))))))))

-- the signs of one byte
unfoldable pub one_byte : ℕ → Option TokenKind
one_byte b =
    if b == 123 then Some BraceOpen else ( -- {
    if b == 125 then Some BraceClose else ( -- }
    if b == 40 then Some ParenOpen else ( -- (
    if b == 41 then Some ParenClose else ( -- )
    if b == 91 then Some BracketOpen else ( -- [
    if b == 93 then Some BracketClose else ( -- ]
    if b == 124 then Some Bar else ( -- |
    if b == 58 then Some Colon else ( -- :
    if b == 59 then Some Semicolon else ( -- ;
    if b == 46 then Some Dot else ( -- .
    if b == 44 then Some Comma else ( -- ,
    if b == 61 then Some Equal else ( -- =
    if b == 60 then Some Less else ( -- <
    if b == 62 then Some Greater else ( -- >
    if b == 43 then Some Plus else ( -- +
    if b == 45 then Some Minus else ( -- -
    if b == 42 then Some Star else ( -- *
    if b == 63 then Some Question else ( -- ?
    None))))))))))))))))))

-- the signs of two bytes
unfoldable pub two_bytes : ℕ → ℕ → Option TokenKind
two_bytes b c =
    if b == 58 && c == 61 then Some Assign else ( -- :=
    if b == 60 && c == 62 then Some NotEqual else ( -- <>
    if b == 60 && c == 61 then Some LessOrEqual else ( -- <=
    if b == 62 && c == 61 then Some GreaterOrEqual else ( -- >=
    if b == 38 && c == 38 then Some And else ( -- &&
    if b == 124 && c == 124 then Some Or else ( -- ||
    None))))))

-- a sign, by its length
abbrev pub sign_kind : List ℕ → Option TokenKind
sign_kind [] = None
sign_kind (b ∷ []) = one_byte b
sign_kind (b ∷ c ∷ []) = two_bytes b c
sign_kind (b ∷ c ∷ d ∷ more) = None

-- the kind of the token that all these bytes together are, if they are one
abbrev pub kind_of : List ℕ → Option TokenKind
kind_of [] = None
kind_of (b ∷ bs) =
    if is_name_start b then (if list_all is_name_byte bs then Some (word_kind (b ∷ bs)) else None) else (
    if is_ascii_digit b then (if list_all is_ascii_digit bs then Some Number else None) else
    sign_kind (b ∷ bs))
