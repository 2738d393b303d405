-- What a canonical text is made of: words, which are its tokens, and single blanks between them.
use Rattle.std.specs.Prelude.{ℕ, List, [], ◌∷◌, ◌++◌, flat_map}
use Rattle.std.specs.Fmt.{decimal}
use Rattle.cub_lexer.specs.declared.token.TokenKind.{TokenKind}
use Rattle.cub_lexer.specs.declared.token.TokenKind.TheVariants as k

-- a blank or a line feed, or a token with its bytes
pub data Mark : Type 0 where
  gap : ℕ → Mark
  word : TokenKind → List ℕ → Mark

-- the bytes of a mark
abbrev pub bytes_of : Mark → List ℕ
bytes_of (gap byte) = byte ∷ []
bytes_of (word kind bytes) = bytes

-- the bytes of marks, one after another
abbrev pub spelled : List Mark → List ℕ
spelled marks = flat_map bytes_of marks

abbrev pub blank : Mark
blank = gap 32

abbrev pub line_feed : Mark
line_feed = gap 10

abbrev pub name : List ℕ → Mark
name bytes = word k.Name bytes

abbrev pub number : ℕ → Mark
number n = word k.Number (decimal n)

-- the first as it is, and each other behind the separator
abbrev pub joined : {A : Type 0} → List Mark → (A → List Mark) → List A → List Mark
joined separator marks [] = []
joined separator marks (x ∷ xs) = marks x ++ flat_map (λ y. separator ++ marks y) xs
