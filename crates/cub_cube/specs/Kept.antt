-- A list that keeps of another, in order, exactly what has a property.
use Rattle.std.specs.Prelude.{◌≡◌, List, [], ◌∷◌, ◌⊎◌}

-- the second list has the items of the first that have the property, in order
abbrev pub Keeps : {A : Type 0} → (A → Type 0) → List A → List A → Type 0
Keeps P [] ys = ys ≡ []
Keeps {A} P (x ∷ xs) ys = (P x × ((zs : List A) × (ys ≡ x ∷ zs) × Keeps P xs zs)) ⊎ ((P x → ⊥) × Keeps P xs ys)
