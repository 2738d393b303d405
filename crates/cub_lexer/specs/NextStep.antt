-- One step of the reading, as the lexer takes it.
use Rattle.std.specs.Prelude.{◌≡◌, ℕ, List, [], ◌∷◌, None}
use Rattle.cub_lexer.specs.declared.lexer.Step.{Step}
use Rattle.cub_lexer.specs.declared.lexer.Step.TheVariants as steps
use Rattle.cub_lexer.specs.Lexeme.{two_bytes}
use Rattle.cub_lexer.specs.Reading.{IsGap, IsToken, IsFault}

-- what stands at the front of the bytes
abbrev pub IsNextStep : List ℕ → Step → Type 0
IsNextStep t (steps.Gap n) = IsGap n t
IsNextStep t (steps.Token kind n) = IsToken kind n t
IsNextStep t (steps.Fault kind) = IsFault kind t

-- the first two bytes are no sign together
abbrev pub NoPair : List ℕ → Type 0
NoPair [] = Unit {0}
NoPair (b ∷ []) = Unit {0}
NoPair (b ∷ c ∷ bs) = two_bytes b c ≡ None
