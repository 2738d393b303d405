-- What a step does to the value of one term.
use Rattle.std.specs.Prelude.{ℕ, List, [], ◌∷◌, ◌++◌, Option, slice_index}
use Rattle.cub_proto.specs.declared.literal.Term.{Term}
use Rattle.cub_proto.specs.declared.transition.Target.{Target}
use Rattle.cub_proto.specs.declared.transition.Update.{Update}
use Rattle.cub_proto.specs.declared.state.Slot.{Slot}
use Rattle.cub_proto.specs.declared.state.Val.{Val}
use Rattle.cub_proto.specs.Configuration.{Configuration}
use Rattle.cub_proto.specs.Truth.{slot_of, term_value}
use Rattle.cub_proto.specs.Effect.{update_of, updated}

-- what must be updated for the term to change
abbrev pub target_of : Term → Target
target_of (Term.Global g) = Target.Global g
target_of (Term.Cell a p) = Target.Array a

-- the places at which that update is read: the parameters, and for a cell its process behind them
abbrev pub update_places : List ℕ → List ℕ → Term → List ℕ
update_places params places (Term.Global g) = params
update_places params places (Term.Cell a p) = params ++ slice_index places p ∷ []

-- the value of the term after the step
abbrev pub value_after : Configuration → List ℕ → List Update → (Slot → Option Val) → List ℕ → Term → Val
value_after s params updates pick places t =
    updated s (update_places params places t) (update_of updates (target_of t)) (pick (slot_of places t)) (term_value s places t)
