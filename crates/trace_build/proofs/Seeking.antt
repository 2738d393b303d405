-- The label that is found is that of the piece with the number that was sought.
use Rattle.std.proofs.Common.{◌≡◌, ℕ, zero, suc, List, [], ◌∷◌, Some, None, ap, subst}
use Rattle.std.specs.Prelude.{option_map, slice_get}
use Rattle.piece_choices.specs.declared.piece.Label.{Label}
use Rattle.piece_choices.specs.declared.piece.Piece.{Piece}
use Rattle.pieces.specs.Handed.{TakesAll}
use Rattle.trace_build.specs.declared.label.Sought.{Sought}
use Rattle.trace_build.specs.Sought.{sought_by, sought_after}

abbrev Takes : Sought → Piece → Sought → Type 0
Takes old x new = new ≡ sought_after old x

stays_found : (list : List Piece) (before : ℕ) (label : Label) (new : Sought) → TakesAll Takes (sought_by before (Some label)) list new → new.found ≡ Some label
stays_found [] before label new h = ap (λ (s : Sought). s.found) h
stays_found (x ∷ xs) before label new h = stays_found xs before label new (subst (λ mid. TakesAll Takes mid xs new) h.1 h.2)

pub is_found : (list : List Piece) (number : ℕ) (new : Sought) → TakesAll (λ old x next. next ≡ sought_after old x) (sought_by number None) list new → new.found ≡ option_map (λ x. x.label) (slice_get list number)
is_found [] number new h = ap (λ (s : Sought). s.found) h
is_found (x ∷ xs) zero new h = stays_found xs zero x.label new (subst (λ mid. TakesAll Takes mid xs new) h.1 h.2)
is_found (x ∷ xs) (suc number) new h = is_found xs number new (subst (λ mid. TakesAll Takes mid xs new) h.1 h.2)
