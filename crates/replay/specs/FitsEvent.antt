-- When an event speaks of what a protocol and its processes have, whether or not it is legal in a state.
use Rattle.std.specs.Prelude.{ℕ, Bool, true, false, ◌&&◌, ◌==◌, nat_lt, List, length, Option, Some, None, slice_get, IsTrue}
use Rattle.std.specs.List.{list_all}
use Rattle.cub_proto.specs.declared.literal.Sort.{Sort}
use Rattle.cub_proto.specs.declared.transition.Transition.{Transition}
use Rattle.cub_proto.specs.declared.state.Slot.{Slot}
use Rattle.cub_proto.specs.declared.state.Val.{Val}
use Rattle.cub_proto.specs.declared.state.Val.TheVariants.{Con, Proc, Int}
use Rattle.cub_proto.specs.declared.event.Chosen.{Chosen}
use Rattle.cub_proto.specs.declared.event.Event.{Event}
use Rattle.cub_proto.specs.declared.event.Event.TheVariants.{Crash, Fire}
use Rattle.cub_proto.specs.declared.protocol.Protocol.{Protocol}
use Rattle.cub_proto.specs.Signature.{Signature, declared_sort, constructors_of}
use Rattle.cub_proto.specs.StateOf.{signature_of}
use Rattle.cub_proto.specs.Legal.{picks_rise}

-- the value is of the sort, where there are n processes
abbrev pub is_of_sort : Signature → ℕ → Sort → Val → Bool
is_of_sort sig n (Sort.Fin k) (Con c) = nat_lt c (constructors_of sig (Sort.Fin k))
is_of_sort sig n (Sort.Fin k) (Proc i) = false
is_of_sort sig n (Sort.Fin k) (Int m) = false
is_of_sort sig n Sort.Proc (Con c) = false
is_of_sort sig n Sort.Proc (Proc i) = nat_lt i n
is_of_sort sig n Sort.Proc (Int m) = false
is_of_sort sig n Sort.Int (Con c) = false
is_of_sort sig n Sort.Int (Proc i) = false
is_of_sort sig n Sort.Int (Int m) = true

-- there is a sort, and the value is of it
abbrev pub is_declared : Signature → ℕ → Option Sort → Val → Bool
is_declared sig n None v = false
is_declared sig n (Some sort) v = is_of_sort sig n sort v

-- the slot is there, and the value is of its sort
abbrev pub slot_takes : Protocol → ℕ → Slot → Val → Bool
slot_takes p n (Slot.Global g) v = is_declared (signature_of p) n (declared_sort p.globals g) v
slot_takes p n (Slot.Cell a i) v = nat_lt i n && is_declared (signature_of p) n (declared_sort p.arrays a) v

-- as many parameters as the transition has, all of them processes; picks that rise strictly, for slots that are there
abbrev pub fits_transition : Protocol → ℕ → Option Transition → List ℕ → List Chosen → Bool
fits_transition p n None params picks = false
fits_transition p n (Some t) params picks =
    (length params == t.params) && list_all (λ i. nat_lt i n) params && picks_rise picks && list_all (λ c. slot_takes p n c.slot c.val) picks

-- the event speaks of what the protocol and its n processes have
abbrev pub fits_event : Protocol → ℕ → Event → Bool
fits_event p n (Crash i) = nat_lt i n
fits_event p n (Fire number params picks) = fits_transition p n (slice_get p.transitions number) params picks

abbrev pub FitsEvent : Protocol → ℕ → Event → Type 0
FitsEvent p n e = IsTrue (fits_event p n e)
