-- Where a word of a text stands, and the leaves of trees.
use Rattle.std.specs.Prelude.{ℕ, ◌+◌, List, [], ◌∷◌, length}
use Rattle.cub_lexer.specs.declared.token.TokenKind.{TokenKind}
use Rattle.cub_parse.specs.declared.tree.Leaf.{Leaf}
use Rattle.cub_print.specs.Mark.{Mark, gap, word}

-- how many words stand before, and how many bytes
pub record Spot : Type 0 where
  pub number : ℕ
  pub at : ℕ

-- the start of a text
abbrev pub first : Spot
first = record { number = 0; at = 0 }

-- the spot behind marks
abbrev pub past : Spot → List Mark → Spot
past s [] = s
past s (gap b ∷ ms) = past (record { number = s.number; at = s.at + 1 }) ms
past s (word kind bytes ∷ ms) = past (record { number = s.number + 1; at = s.at + length bytes }) ms

-- a word as a leaf
abbrev pub leaf : TokenKind → List ℕ → Spot → Leaf
leaf kind bytes s = record { number = s.number; token = record { kind = kind; at = s.at; len = length bytes } }

-- the words of marks as leaves
abbrev pub leaves : Spot → List Mark → List Leaf
leaves s [] = []
leaves s (gap b ∷ ms) = leaves (record { number = s.number; at = s.at + 1 }) ms
leaves s (word kind bytes ∷ ms) = leaf kind bytes s ∷ leaves (record { number = s.number + 1; at = s.at + length bytes }) ms

-- the trees of items whose marks stand in a row
abbrev pub in_row : {A T : Type 0} → (A → List Mark) → (A → Spot → T) → List A → Spot → List T
in_row marks tree [] s = []
in_row marks tree (x ∷ xs) s = tree x s ∷ in_row marks tree xs (past s (marks x))
