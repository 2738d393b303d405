-- The places of a transition's parameters, and the places that are none.
use Rattle.std.specs.Prelude.{ℕ, zero, suc, ◌+◌, ◌-◌, Bool, not, if◌then◌else◌, List, [], ◌∷◌, ◌++◌, ◌==◌, filter}
use Rattle.std.specs.List.{flat_map, list_any, range_with_len}

-- the place of each parameter, and the width that the cube has with those that are new
pub record Placing : Type 0 where
  pub params : List ℕ
  pub width : ℕ

abbrev pub placing : List ℕ → ℕ → Placing
placing params width = record { params = params; width = width }

abbrev pub is_among : List ℕ → ℕ → Bool
is_among xs q = list_any (λ x. x == q) xs

-- the places for so many further parameters, in order: a place of the cube that no earlier one has, or else a new one
abbrev pub placings_from : ℕ → List ℕ → ℕ → ℕ → List Placing
placings_from width params next zero = placing params next ∷ []
placings_from width params next (suc more) =
    flat_map (λ q. if is_among params q then [] else placings_from width (params ++ q ∷ []) next more) (range_with_len 0 width)
    ++ placings_from width (params ++ next ∷ []) (next + 1) more

-- the placings of so many parameters, for a cube of that width
abbrev pub placings : ℕ → ℕ → List Placing
placings width count = placings_from width [] width count

-- the places below the width that no parameter has
abbrev pub free_places : List ℕ → ℕ → List ℕ
free_places params width = filter (λ q. not (is_among params q)) (range_with_len 0 width)

-- the places from one width to another
abbrev pub new_places : ℕ → ℕ → List ℕ
new_places from to = range_with_len from (to - from)
