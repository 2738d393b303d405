-- Sentences, and where tokens stop being the front of one.
use Rattle.std.specs.Prelude.{◌≡◌, ℕ, suc, ◌+◌, ◌≤◌, List, [], ◌∷◌, ◌++◌, length, take, drop, Result, Ok, Err}
use Rattle.cub_lexer.specs.declared.token.Token.{Token}
use Rattle.cub_parse.specs.declared.fault.ParseKind.{ParseKind}
use Rattle.cub_parse.specs.declared.fault.ParseKind.TheVariants.{P1, P2}
use Rattle.cub_parse.specs.declared.fault.ParseFault.{ParseFault}
use Rattle.cub_parse.specs.declared.fault.ParseFault.TheVariants as faults
use Rattle.cub_parse.specs.declared.tree.Leaf.{Leaf}
use Rattle.cub_parse.specs.declared.tree.Syntax.{Syntax}
use Rattle.cub_parse.specs.Grammar.{File}

-- the greatest number of `(`, `not` and `forall_other` inside one another
abbrev pub max_levels : ℕ
max_levels = 64

-- all these tokens together are a text with this tree, with so many levels
abbrev pub Sentence : ℕ → List Leaf → Syntax → Type 0
Sentence levels ts tree = File levels ts tree []

-- these tokens begin a sentence
abbrev pub Begins : ℕ → List Leaf → Type 0
Begins levels front = (more : List Leaf) × (tree : Syntax) × Sentence levels (front ++ more) tree

-- so they do with the next token; at the end, they are one
abbrev pub GoesOn : ℕ → List Leaf → List Leaf → Type 0
GoesOn levels front [] = (tree : Syntax) × Sentence levels front tree
GoesOn levels front (x ∷ rest) = Begins levels (front ++ x ∷ [])

-- with the next token they begin no sentence, however deep, or they begin one that is a level too deep
abbrev pub IsOfKind : ParseKind → List Leaf → List Leaf → Type 0
IsOfKind P1 front rest = (levels : ℕ) → GoesOn levels front rest → ⊥
IsOfKind P2 front rest = GoesOn (suc max_levels) front rest

-- the first so many tokens begin a sentence, and with the next one they do not
pub record IsFault (ts : List Leaf) (at : ℕ) (kind : ParseKind) : Type 0 where
  pub within : at ≤ length ts
  pub begins : Begins max_levels (take at ts)
  pub stops : GoesOn max_levels (take at ts) (drop at ts) → ⊥
  pub of_kind : IsOfKind kind (take at ts) (drop at ts)

-- tokens with their numbers
abbrev pub numbered : ℕ → List Token → List Leaf
numbered number [] = []
numbered number (x ∷ xs) = (record { number = number; token = x }) ∷ numbered (number + 1) xs

-- what was answered about the tokens is right, unless memory ran out
abbrev pub IsFaultAmong : List Leaf → ParseFault → Type 0
IsFaultAmong ts (faults.Fault at kind) = IsFault ts at kind
IsFaultAmong ts faults.Memory = Unit {0}

-- tokens have one tree at most
abbrev pub OneTree : Type 0
OneTree = (ts : List Leaf) (a b : Syntax) → Sentence max_levels ts a → Sentence max_levels ts b → a ≡ b

-- and one fault at most
abbrev pub OneFault : Type 0
OneFault = (ts : List Leaf) (at other : ℕ) (kind another : ParseKind) → IsFault ts at kind → IsFault ts other another → (at ≡ other) × (kind ≡ another)

-- and not both
abbrev pub NoFault : Type 0
NoFault = (ts : List Leaf) (tree : Syntax) (at : ℕ) (kind : ParseKind) → Sentence max_levels ts tree → IsFault ts at kind → ⊥
