-- The picks for some slots.
use Rattle.std.specs.Prelude.{ℕ, Bool, true, false, List, Option, Some, None, option_map}
use Rattle.std.specs.List.{filter_map, list_all}
use Rattle.cub_proto.specs.declared.literal.Value.{Value}
use Rattle.cub_proto.specs.declared.state.Slot.{Slot}
use Rattle.cub_proto.specs.declared.event.Chosen.{Chosen}
use Rattle.updates.specs.declared.choice.Choice.{Choice}
use Rattle.piece_laws.specs.Event.{pick_by}

-- what the choices pick for these slots, in their order
abbrev pub picks_at : List Choice → List ℕ → List Slot → List Chosen
picks_at choices places slots = filter_map (λ slot. option_map (λ v. record { slot = slot; val = v }) (pick_by choices places slot)) slots

abbrev pub is_none : Option Value → Bool
is_none None = true
is_none (Some v) = false

-- no choice picks a value
abbrev pub has_no_pick : List Choice → Bool
has_no_pick choices = list_all (λ c. is_none c.pick) choices
