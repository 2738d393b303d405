-- What the terms take whose chosen value is `?`.
use Rattle.std.specs.Prelude.{ℕ, ◌+◌, if◌then◌else◌, List, [], ◌∷◌, ◌++◌, map, Option, Some, None}
use Rattle.std.specs.List.{flat_map, range_with_len}
use Rattle.cub_proto.specs.declared.literal.Sort.{Sort}
use Rattle.cub_proto.specs.declared.literal.Term.{Term}
use Rattle.cub_proto.specs.declared.literal.PSide.{PSide}
use Rattle.cub_proto.specs.declared.literal.Value.{Value}
use Rattle.cub_proto.specs.declared.transition.Update.{Update}
use Rattle.cub_proto.specs.Signature.{Signature, sort_of, constructors_of}
use Rattle.cub_proto.specs.Fits.{is_any}
use Rattle.updates.specs.declared.choice.Choice.{Choice}
use Rattle.updates.specs.Chosen.{chosen_value, with_pick}

-- choices with their picks, and the width that the cube has with the new places of picks
pub record Picking : Type 0 where
  pub choices : List Choice
  pub width : ℕ

abbrev pub picking : List Choice → ℕ → Picking
picking choices width = record { choices = choices; width = width }

-- a value, and the width of the cube that has its place
pub record Pick : Type 0 where
  pub value : Value
  pub width : ℕ

abbrev pub pick : ℕ → Value → Pick
pick width value = record { value = value; width = width }

-- the values for a term of a sort: each constructor; or for a process global its old value, each place, and a new place
abbrev pub values_for : Signature → ℕ → Term → Option Sort → List Pick
values_for sig width t (Some (Sort.Fin k)) = map (λ c. pick width (Value.Con c)) (range_with_len 0 (constructors_of sig (Sort.Fin k)))
values_for sig width (Term.Global g) (Some Sort.Proc) =
    pick width (Value.Proc (PSide.Global g))
    ∷ map (λ q. pick width (Value.Proc (PSide.Place q))) (range_with_len 0 width)
    ++ pick (width + 1) (Value.Proc (PSide.Place width)) ∷ []
values_for sig width (Term.Cell a p) (Some Sort.Proc) = []
values_for sig width t (Some Sort.Int) = []
values_for sig width t None = []

-- the choice with each pick that it can have; the choice itself where its value is not `?`
abbrev pub picks_of : Signature → List Update → List ℕ → ℕ → Choice → List Picking
picks_of sig updates params width c =
    if is_any (chosen_value updates params c)
    then map (λ v. picking (with_pick c v.value ∷ []) v.width) (values_for sig width c.term (sort_of sig c.term))
    else picking (c ∷ []) width ∷ []

-- the choices with their picks, in order; new places count for later picks
abbrev pub pickings : Signature → List Update → List ℕ → ℕ → List Choice → List Picking
pickings sig updates params width [] = picking [] width ∷ []
pickings sig updates params width (c ∷ cs) =
    flat_map (λ first. map (λ rest. picking (first.choices ++ rest.choices) rest.width) (pickings sig updates params first.width cs))
    (picks_of sig updates params width c)
