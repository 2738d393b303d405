-- The first fault of an event in a state.
use Rattle.std.specs.Prelude.{ℕ, Bool, true, false, not, ◌&&◌, ◌==◌, if◌then◌else◌, List, [], ◌∷◌, ◌++◌, Option, Some, None, option_map, find, slice_get}
use Rattle.std.specs.Option.{option_or}
use Rattle.std.specs.List.{list_any, range_with_len}
use Rattle.cub_proto.specs.declared.transition.Target.TheVariants as Target
use Rattle.cub_proto.specs.declared.transition.Update.{Update}
use Rattle.cub_proto.specs.declared.transition.Transition.{Transition}
use Rattle.cub_proto.specs.declared.literal.Lit.{Lit}
use Rattle.cub_proto.specs.declared.state.Slot.{Slot}
use Rattle.cub_proto.specs.declared.state.Val.{Val}
use Rattle.cub_proto.specs.declared.state.Val.TheVariants.{Con, Proc, Int}
use Rattle.cub_proto.specs.declared.event.Chosen.{Chosen}
use Rattle.cub_proto.specs.declared.event.Event.{Event}
use Rattle.cub_proto.specs.declared.event.Event.TheVariants.{Crash, Fire}
use Rattle.cub_proto.specs.declared.protocol.Protocol.{Protocol}
use Rattle.cub_proto.specs.Configuration.{Configuration, process_count, is_alive}
use Rattle.cub_proto.specs.Truth.{any_true}
use Rattle.cub_proto.specs.Fits.{is_any}
use Rattle.cub_proto.specs.Effect.{update_of, counting}
use Rattle.replay.specs.declared.fault.StepFault.{StepFault}
use Rattle.replay.specs.declared.fault.StepFault.TheVariants.{Dead, Equal, Guard, Other, Pick}

-- the process is among these
abbrev pub is_among : List ℕ → ℕ → Bool
is_among processes i = list_any (λ j. j == i) processes

-- the first process that is not alive
abbrev pub first_dead : Configuration → List ℕ → Option ℕ
first_dead s processes = find (λ i. not (is_alive s i)) processes

-- the first process equal to an earlier one, where those before the list are given
abbrev pub first_repeat_after : List ℕ → List ℕ → Option ℕ
first_repeat_after earlier [] = None
first_repeat_after earlier (i ∷ is) = if is_among earlier i then Some i else first_repeat_after (earlier ++ i ∷ []) is

abbrev pub first_repeat : List ℕ → Option ℕ
first_repeat processes = first_repeat_after [] processes

-- the process is alive, no parameter, and no alternative of the universal guard is true for it
abbrev pub is_blocking : Configuration → List (List Lit) → List ℕ → ℕ → Bool
is_blocking s others params i = is_alive s i && not (is_among params i) && not (any_true s (params ++ i ∷ []) others)

-- the first process that blocks the transition
abbrev pub first_blocking : Configuration → List (List Lit) → List ℕ → Option ℕ
first_blocking s others params = find (is_blocking s others params) (range_with_len 0 (process_count s))

-- there is an update, and its counting value is `?`
abbrev pub is_free : Configuration → List ℕ → Option Update → Bool
is_free s places None = false
is_free s places (Some u) = is_any (counting s places u)

-- the slot is a global, or a cell of an alive process, whose update counts `?`
abbrev pub is_free_slot : Configuration → List Update → List ℕ → Slot → Bool
is_free_slot s updates params (Slot.Global g) = is_free s params (update_of updates (Target.Global g))
is_free_slot s updates params (Slot.Cell a i) = is_alive s i && is_free s (params ++ i ∷ []) (update_of updates (Target.Array a))

-- the value is no dead process
abbrev pub is_no_dead : Configuration → Val → Bool
is_no_dead s (Con c) = true
is_no_dead s (Proc i) = is_alive s i
is_no_dead s (Int m) = true

abbrev pub is_allowed : Configuration → List Update → List ℕ → Chosen → Bool
is_allowed s updates params c = is_free_slot s updates params c.slot && is_no_dead s c.val

-- the first pick that is not allowed
abbrev pub first_refused : Configuration → List Update → List ℕ → List Chosen → Option Chosen
first_refused s updates params picks = find (λ c. not (is_allowed s updates params c)) picks

-- the guard's fault, where no alternative of it is true
abbrev pub guard_fault : Bool → Option StepFault
guard_fault true = None
guard_fault false = Some Guard

-- the first fault of a firing: each list is tested whole before the next
abbrev pub firing_fault : Configuration → Transition → List ℕ → List Chosen → Option StepFault
firing_fault s t params picks =
    option_or (option_map (λ i. Dead i) (first_dead s params))
    (option_or (option_map (λ i. Equal i) (first_repeat params))
    (option_or (guard_fault (any_true s params t.guard))
    (option_or (option_map (λ i. Other i) (first_blocking s t.others params))
    (option_map (λ c. Pick c.slot) (first_refused s t.updates params picks)))))

-- a crash of a dead process is a fault
abbrev pub crash_fault : ℕ → Bool → Option StepFault
crash_fault i true = None
crash_fault i false = Some (Dead i)

-- the fault of firing the transition, if it is there
abbrev pub fault_of : Option Transition → Configuration → List ℕ → List Chosen → Option StepFault
fault_of None s params picks = None
fault_of (Some t) s params picks = firing_fault s t params picks

-- the first fault of an event, none where there is none
abbrev pub fault_at : Protocol → Configuration → Event → Option StepFault
fault_at p s (Crash i) = crash_fault i (is_alive s i)
fault_at p s (Fire number params picks) = fault_of (slice_get p.transitions number) s params picks
