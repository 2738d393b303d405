-- What the grammar is made of. A phrase is a relation between tokens, the tree of the phrase that they begin with, and
-- the tokens that are left behind it.
use Rattle.std.specs.Prelude.{◌≡◌, Bool, true, false, ◌⊎◌, List, [], ◌∷◌, Option, Some, None}
use Rattle.std.specs.List.{list_any}
use denote.Enum.Bare.{sameb}
use Rattle.cub_lexer.specs.declared.token.TokenKind.{TokenKind}
use Rattle.cub_lexer.specs.contracts.token.TokenKind.{the_type}
use Rattle.cub_parse.specs.declared.tree.Leaf.{Leaf}

-- the kind is among these
abbrev pub is_in : TokenKind → List TokenKind → Bool
is_in kind kinds = list_any (λ k. sameb the_type kind k) kinds

-- there is a next token, and it is of one of these kinds
abbrev pub heads : List TokenKind → List Leaf → Bool
heads kinds [] = false
heads kinds (x ∷ rest) = is_in x.token.kind kinds

abbrev pub Phrase : Type 0 → Type 1
Phrase A = List Leaf → A → List Leaf → Type 0

-- a token of one of these kinds
abbrev pub OneOf : List TokenKind → Phrase Leaf
OneOf kinds ts x rest = (ts ≡ x ∷ rest) × (is_in x.token.kind kinds ≡ true)

abbrev pub Word : TokenKind → Phrase Leaf
Word kind = OneOf (kind ∷ [])

-- no token at all, with this tree
abbrev pub Is : {A : Type 0} → A → Phrase A
Is value ts a rest = (a ≡ value) × (ts ≡ rest)

-- one phrase, and behind it another, in which the tree of the first may be used
infixl 10 ◌>>=◌
abbrev pub ◌>>=◌ : {A B : Type 0} → Phrase A → (A → Phrase B) → Phrase B
◌>>=◌ {A} R S ts b rest = (a : A) × (mid : List Leaf) × R ts a mid × S a mid b rest

abbrev pub Either : {A : Type 0} → Phrase A → Phrase A → Phrase A
Either R S ts a rest = R ts a rest ⊎ S ts a rest

-- [ R ]
abbrev pub Maybe : {A : Type 0} → Phrase A → Phrase (Option A)
Maybe R = Either (R >>= λ a. Is (Some a)) (Is None)

-- R again and again, up to one that gives nothing
abbrev pub Until : {A : Type 0} → Phrase (Option A) → Phrase (List A)
Until R ts [] rest = R ts None rest
Until R ts (a ∷ others) rest = (mid : List Leaf) × R ts (Some a) mid × Until R mid others rest

-- { R }
abbrev pub Each : {A : Type 0} → Phrase A → Phrase (List A)
Each R = Until (Maybe R)

-- R as far as it can: no token of these kinds goes on behind it
abbrev pub Before : {A : Type 0} → List TokenKind → Phrase A → Phrase A
Before kinds R ts a rest = R ts a rest × (heads kinds rest ≡ false)
