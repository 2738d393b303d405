-- What typing looks at of a leaf: its kind and its bytes, never where it stands.
use Rattle.std.specs.Prelude.{ℕ, Bool, true, false, ◌==◌, ◌&&◌, ◌||◌, not, min, List, [], ◌∷◌, length}
use Rattle.cub_base.specs.Name.{is_declarable}
use Rattle.cub_lexer.specs.Spans.{text_of}
use Rattle.cub_lexer.specs.Number.{value_of}
use Rattle.cub_parse.specs.declared.tree.Leaf.{Leaf}

abbrev pub word_of : List ℕ → Leaf → List ℕ
word_of text leaf = text_of text leaf.token

-- the number that the leaf spells; one that is too great counts as the least such
abbrev pub amount_of : List ℕ → Leaf → ℕ
amount_of text leaf = min (value_of (word_of text leaf)) 1000000001

abbrev pub begins_with_underscore : List ℕ → Bool
begins_with_underscore [] = false
begins_with_underscore (c ∷ cs) = c == 95

-- what a declaration may introduce: a name of the language that does not begin with `_`
abbrev pub may_declare : List ℕ → Bool
may_declare word = is_declarable word && not (begins_with_underscore word)
