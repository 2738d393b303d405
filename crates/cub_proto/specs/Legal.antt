-- Start states, legal events and runs.
use Rattle.std.specs.Prelude.{◌≡◌, ℕ, ◌<◌, Bool, true, false, ◌&&◌, ◌||◌, ◌==◌, nat_lt, List, [], ◌∷◌, ◌++◌, length, Option, Some, None, slice_get, All, AllPairs, Contains, IsTrue, ◌≢◌}
use Rattle.std.specs.List.{list_all}
use Rattle.cub_proto.specs.declared.literal.Sort.{Sort}
use Rattle.cub_proto.specs.declared.literal.Value.TheVariants as Value
use Rattle.cub_proto.specs.declared.transition.Target.TheVariants as Target
use Rattle.cub_proto.specs.declared.transition.Update.{Update}
use Rattle.cub_proto.specs.declared.transition.Transition.{Transition}
use Rattle.cub_proto.specs.declared.state.Slot.{Slot}
use Rattle.cub_proto.specs.declared.state.Val.{Val}
use Rattle.cub_proto.specs.declared.state.Val.TheVariants.{Proc}
use Rattle.cub_proto.specs.declared.event.Chosen.{Chosen}
use Rattle.cub_proto.specs.declared.event.Event.{Event}
use Rattle.cub_proto.specs.declared.event.Event.TheVariants.{Crash, Fire}
use Rattle.cub_proto.specs.declared.protocol.Protocol.{Protocol}
use Rattle.cub_proto.specs.Signature.{declared_sort}
use Rattle.cub_proto.specs.Configuration.{Configuration, process_count, IsAlive, killed}
use Rattle.cub_proto.specs.Truth.{any_true}
use Rattle.cub_proto.specs.StateOf.{IsStateOf, IsOfSort, signature_of}
use Rattle.cub_proto.specs.Effect.{update_of, counting, fired, picked}

-- all processes are alive, and the start formula is true for each one
pub record IsStart (p : Protocol) (s : Configuration) : Type 0 where
  pub state : IsStateOf p s
  pub alive : (i : ℕ) → i < process_count s → IsAlive s i
  pub begins : (i : ℕ) → i < process_count s → IsTrue (any_true s (i ∷ []) p.start)

-- the processes are alive and pairwise distinct
pub record AreDistinctAlive (s : Configuration) (processes : List ℕ) : Type 0 where
  pub alive : All (IsAlive s) processes
  pub distinct : AllPairs (λ i j. i ≢ j) processes

-- the value is of the sort, and alive where it is a process
pub record IsPickable (p : Protocol) (s : Configuration) (sort : Sort) (v : Val) : Type 0 where
  pub of_sort : IsOfSort (signature_of p) (process_count s) sort v
  pub alive : (i : ℕ) → v ≡ Proc i → IsAlive s i

-- the target has an update whose counting value is `?`, and the value is pickable for its sort
pub record TakesPick (p : Protocol) (s : Configuration) (places : List ℕ) (update : Option Update) (sort : Option Sort) (v : Val) : Type 0 where
  pub its_update : Update
  pub is_update : update ≡ Some its_update
  pub free : counting s places its_update ≡ Value.Any
  pub its_sort : Sort
  pub is_sort : sort ≡ Some its_sort
  pub pickable : IsPickable p s its_sort v

-- the slot is a global, or a cell of an alive process, that takes the pick
abbrev pub MayPick : Protocol → Configuration → List Update → List ℕ → Slot → Val → Type 0
MayPick p s updates params (Slot.Global g) v =
    TakesPick p s params (update_of updates (Target.Global g)) (declared_sort p.globals g) v
MayPick p s updates params (Slot.Cell a i) v =
    IsAlive s i × TakesPick p s (params ++ i ∷ []) (update_of updates (Target.Array a)) (declared_sort p.arrays a) v

-- globals come before cells, each by their numbers
abbrev pub slot_before : Slot → Slot → Bool
slot_before (Slot.Global g) (Slot.Global h) = nat_lt g h
slot_before (Slot.Global g) (Slot.Cell a i) = true
slot_before (Slot.Cell a i) (Slot.Global g) = false
slot_before (Slot.Cell a i) (Slot.Cell b j) = nat_lt a b || (a == b && nat_lt i j)

-- picks rise strictly by slot, so each slot has at most one
abbrev pub picks_rise : List Chosen → Bool
picks_rise [] = true
picks_rise (c ∷ cs) = list_all (λ d. slot_before c.slot d.slot) cs && picks_rise cs

-- a transition may fire: as many parameters as it has, alive and distinct; some alternative of its guard is true, and
-- some alternative of its universal guard for every other alive process; each pick is for a slot that takes it
pub record MayFire (p : Protocol) (s : Configuration) (t : Transition) (params : List ℕ) (pick : Slot → Option Val) : Type 0 where
  pub one_each : length params ≡ t.params
  pub parameters : AreDistinctAlive s params
  pub guard : IsTrue (any_true s params t.guard)
  pub others : (i : ℕ) → IsAlive s i → (Contains params i → ⊥) → IsTrue (any_true s (params ++ i ∷ []) t.others)
  pub picks : (slot : Slot) (v : Val) → pick slot ≡ Some v → MayPick p s t.updates params slot v

-- a legal firing names a transition that may fire, with rising picks
pub record IsLegalFire (p : Protocol) (s : Configuration) (number : ℕ) (params : List ℕ) (picks : List Chosen) : Type 0 where
  pub transition : Transition
  pub is_there : slice_get p.transitions number ≡ Some transition
  pub fires : MayFire p s transition params (picked picks)
  pub rising : IsTrue (picks_rise picks)

-- a legal event: the crash of an alive process, or a legal firing
abbrev pub IsLegal : Protocol → Configuration → Event → Type 0
IsLegal p s (Crash i) = IsAlive s i
IsLegal p s (Fire number params picks) = IsLegalFire p s number params picks

-- the state after firing the transition with that number; unchanged where it is not there
abbrev pub fired_by : Option Transition → Configuration → List ℕ → List Chosen → Configuration
fired_by None s params picks = s
fired_by (Some t) s params picks = fired s params t.updates (picked picks)

-- the state after an event
abbrev pub after : Protocol → Configuration → Event → Configuration
after p s (Crash i) = killed s i
after p s (Fire number params picks) = fired_by (slice_get p.transitions number) s params picks

-- the state after all events
abbrev pub after_all : Protocol → Configuration → List Event → Configuration
after_all p s [] = s
after_all p s (e ∷ es) = after_all p (after p s e) es

-- each event is legal in the state that the earlier ones left
abbrev pub AreLegal : Protocol → Configuration → List Event → Type 0
AreLegal p s [] = Unit {0}
AreLegal p s (e ∷ es) = IsLegal p s e × AreLegal p (after p s e) es

-- a run: a start state and legal events
pub record IsRun (p : Protocol) (s : Configuration) (events : List Event) : Type 0 where
  pub start : IsStart p s
  pub legal : AreLegal p s events

abbrev pub is_crash : Event → Bool
is_crash (Crash i) = true
is_crash (Fire number params picks) = false

-- a plain run has no crash
pub record IsPlainRun (p : Protocol) (s : Configuration) (events : List Event) : Type 0 where
  pub run : IsRun p s events
  pub plain : All (λ e. is_crash e ≡ false) events
