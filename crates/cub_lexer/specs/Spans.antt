-- Where tokens stand in their text.
use Rattle.std.specs.Prelude.{◌≡◌, ℕ, ◌+◌, ◌<◌, ◌≤◌, List, [], ◌∷◌, length, take, drop, Some}
use Rattle.cub_lexer.specs.declared.token.Token.{Token}
use Rattle.cub_lexer.specs.Lexeme.{kind_of}

-- the bytes of a token
abbrev pub text_of : List ℕ → Token → List ℕ
text_of text x = take x.len (drop x.at text)

-- from place `from` on the tokens stand in order, apart, within the text, each spelled as its kind is
abbrev pub AreSpans : List ℕ → ℕ → List Token → Type 0
AreSpans text from [] = Unit {0}
AreSpans text from (x ∷ xs) =
    (from ≤ x.at) × (0 < x.len) × (x.at + x.len ≤ length text) × (kind_of (text_of text x) ≡ Some x.kind) × AreSpans text (x.at + x.len) xs
