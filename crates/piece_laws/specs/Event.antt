-- What a label says: the event that leads from processes which satisfy the piece into the cube.
use Rattle.std.specs.Prelude.{ℕ, if◌then◌else◌, List, [], ◌∷◌, ◌++◌, map, Option, Some, None, option_map, length, slice_index}
use Rattle.std.specs.List.{range_with_len, flat_map, filter_map}
use Rattle.cub_proto.specs.declared.literal.PSide.{PSide}
use Rattle.cub_proto.specs.declared.literal.Value.{Value}
use Rattle.cub_proto.specs.declared.state.Slot.{Slot}
use Rattle.cub_proto.specs.declared.state.Val.{Val}
use Rattle.cub_proto.specs.declared.state.Val.TheVariants.{Con, Proc}
use Rattle.cub_proto.specs.declared.event.Chosen.{Chosen}
use Rattle.cub_proto.specs.declared.event.Event.{Event}
use Rattle.cub_proto.specs.Configuration.{Configuration, process_count}
use Rattle.cub_proto.specs.Truth.{slot_of}
use Rattle.cub_proto.specs.Effect.{same_slot}
use Rattle.cub_cube.specs.Rename.{along}
use Rattle.cub_cube.specs.Crashes.{spare}
use Rattle.updates.specs.declared.choice.Choice.{Choice}
use Rattle.piece_choices.specs.declared.piece.Label.{Label}
use Rattle.piece_choices.specs.Placings.{is_among}
use Rattle.piece_laws.specs.Leads.{crashes_then}

-- the value that is picked; none for the old value of a global
abbrev pub picked_value : List ℕ → Option Value → Option Val
picked_value places None = None
picked_value places (Some (Value.Con c)) = Some (Con c)
picked_value places (Some (Value.Read t)) = None
picked_value places (Some (Value.Proc (PSide.Global g))) = None
picked_value places (Some (Value.Proc (PSide.Place q))) = Some (Proc (slice_index places q))
picked_value places (Some (Value.Sum base add)) = None
picked_value places (Some Value.Any) = None

-- the value that the choices pick for a slot, where item p of the list is the process at place p
abbrev pub pick_by : List Choice → List ℕ → Slot → Option Val
pick_by [] places slot = None
pick_by (c ∷ cs) places slot = if same_slot (slot_of places c.term) slot then picked_value places c.pick else pick_by cs places slot

-- all slots of a state, in order
abbrev pub slots_of : Configuration → List Slot
slots_of s =
    map (λ g. Slot.Global g) (range_with_len 0 (length s.globals))
    ++ flat_map (λ a. map (λ i. Slot.Cell a i) (range_with_len 0 (process_count s))) (range_with_len 0 (length s.arrays))

-- the picks of the choices, rising by slot
abbrev pub picks_by : Configuration → List Choice → List ℕ → List Chosen
picks_by s choices places =
    filter_map (λ slot. option_map (λ v. record { slot = slot; val = v }) (pick_by choices places slot)) (slots_of s)

-- the crash of every alive process that is at no place, and then the firing that the label names
abbrev pub events_by : Configuration → Label → List ℕ → List Event
events_by s label places =
    crashes_then (spare (is_among places) s (process_count s)) label.transition (along label.params places) (picks_by s label.choices places)
