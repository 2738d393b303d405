-- What a load leaves of the meanings of a shelf.
use Rattle.std.specs.Prelude.{◌≡◌, ℕ, ◌<◌, ◌≤◌, ◌⊎◌, List, [], ◌∷◌, ◌++◌, length, take, Option, Result, MatchOption, option_map, IsErrOf}
use Rattle.io_edge.specs.declared.shelf.LoadFault.{LoadFault}
use Rattle.io_edge.specs.declared.shelf.LoadFault.TheVariants.{Memory}

-- the names asked for and one more, where they are told
abbrev pub with_name : Option (List (List ℕ)) → List ℕ → Option (List (List ℕ))
with_name asked name = option_map (λ names. names ++ name ∷ []) asked

-- a load adds its name to those asked for; with Memory it may add nothing
abbrev pub AddsName : {X : Type 0} → Option (List (List ℕ)) → Option (List (List ℕ)) → List ℕ → Result X LoadFault → Type 0
AddsName before now name result = (now ≡ with_name before name) ⊎ (IsErrOf result Memory × (now ≡ before))

-- several loads asked for a prefix of these names, in their order
abbrev pub AsksFor : Option (List (List ℕ)) → Option (List (List ℕ)) → List (List ℕ) → Type 0
AsksFor before now names =
    (count : ℕ) × (count ≤ length names) × (now ≡ option_map (λ asked. asked ++ take count names) before)

-- told bytes are more than the limit; of untold ones more than the limit were taken
abbrev pub IsOver : Option (List ℕ) → ℕ → ℕ → Type 0
IsOver told taken limit = MatchOption told (limit < taken) (λ bytes. limit < length bytes)
