-- What is handed on.
use Rattle.std.specs.Prelude.{◌≡◌, ℕ, List, [], ◌∷◌}
use Rattle.cub_cube.specs.declared.cube.Cube.{Cube}
use Rattle.cub_cube.specs.Kept.{Keeps}
use Rattle.piece_choices.specs.declared.piece.Label.{Label}
use Rattle.piece_choices.specs.declared.piece.Piece.{Piece}
use Rattle.piece_steps.specs.Steps.{Draft}

-- the label that a draft has for the transition with that number
abbrev pub label_of : ℕ → Draft → Label
label_of number d = record { transition = number; params = d.params; guard = d.guard; others = d.others; choices = d.choices }

abbrev pub piece_of : ℕ → Draft → Cube → Piece
piece_of number d cube = record { label = label_of number d; cube = cube }

-- from the first state to the second by taking the items one by one
abbrev pub TakesAll : {S A : Type 0} → (S → A → S → Type 0) → S → List A → S → Type 0
TakesAll takes old [] new = new ≡ old
TakesAll {S} takes old (x ∷ xs) new = (mid : S) × takes old x mid × TakesAll takes mid xs new

-- what of the list has the property was handed on, in order
pub record Hands {S A : Type 0} (P : A → Type 0) (takes : S → A → S → Type 0) (xs : List A) (old new : S) : Type 0 where
  pub kept : List A
  pub keeps : Keeps P xs kept
  pub taken : TakesAll takes old kept new
