-- The tokens that the lexer reads in the bytes of marks.
use Rattle.std.specs.Prelude.{◌≡◌, ℕ, ◌+◌, true, List, [], ◌∷◌, ◌++◌, length, Ok}
use Rattle.cub_lexer.specs.declared.token.Token.{Token}
use Rattle.cub_lexer.specs.Comment.{is_blank}
use Rattle.cub_lexer.specs.Reading.{IsToken, Reads}
use Rattle.cub_print.specs.Mark.{Mark, gap, word, spelled}

-- a token for each word, where the bytes begin at this place
abbrev pub tokens_from : ℕ → List Mark → List Token
tokens_from at [] = []
tokens_from at (gap byte ∷ rest) = tokens_from (at + 1) rest
tokens_from at (word kind bytes ∷ rest) = (record { kind = kind; at = at; len = length bytes }) ∷ tokens_from (at + length bytes) rest

-- gaps are blanks, and each word is a token before the bytes that follow it: no longer front of them is one
abbrev pub StandApart : List Mark → Type 0
StandApart [] = Unit {0}
StandApart (gap byte ∷ rest) = (is_blank byte ≡ true) × StandApart rest
StandApart (word kind bytes ∷ rest) = IsToken kind (length bytes) (bytes ++ spelled rest) × StandApart rest

-- marks that stand apart are read as their words
abbrev pub MarksAreRead : Type 0
MarksAreRead = (ms : List Mark) → StandApart ms → Reads 0 (spelled ms) (Ok (tokens_from 0 ms))
