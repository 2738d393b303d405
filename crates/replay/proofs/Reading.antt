-- A transition of a protocol can be computed in each of its states.
use Rattle.std.proofs.Common.{◌≡◌, ℕ, ◌+◌, ◌≤◌, ◌^◌, true, false, ◌&&◌, nat_le, List, [], ◌∷◌, ◌++◌, Option, Some, is_some, unsigned_abs, ap, subst, arith, All, ℤ}
use Rattle.std.proofs.lemmas.Bool.{and_parts, leb-true}
use Rattle.std.proofs.lemmas.List.Elements.{All-weaker}
use Rattle.cub_proto.specs.declared.literal.Sort.{Sort}
use Rattle.cub_proto.specs.declared.literal.Term.{Term}
use Rattle.cub_proto.specs.declared.literal.ISide.{ISide}
use Rattle.cub_proto.specs.declared.literal.ISide.TheVariants.{Zero, At}
use Rattle.cub_proto.specs.declared.literal.Value.{Value}
use Rattle.cub_proto.specs.declared.transition.Target.{Target}
use Rattle.cub_proto.specs.declared.transition.Update.{Update}
use Rattle.cub_proto.specs.declared.transition.Transition.{Transition}
use Rattle.cub_proto.specs.declared.state.Slot.{Slot}
use Rattle.cub_proto.specs.declared.state.Val.{Val}
use Rattle.cub_proto.specs.declared.state.Val.TheVariants.{Con, Proc, Int}
use Rattle.cub_proto.specs.declared.protocol.Protocol.{Protocol}
use Rattle.cub_proto.specs.Configuration.{Configuration, value_at, HasSlot}
use Rattle.cub_proto.specs.Signature.{sort_of, declared_sort, target_sort, is_sort}
use Rattle.cub_proto.specs.Fits.{place_fits, integer_side_fits, conjunction_fits, value_fits, branch_fits, update_width, update_fits_sort, update_fits, greatest_constant}
use Rattle.cub_proto.specs.StateOf.{IsStateOf, signature_of}
use Rattle.cub_proto.specs.Truth.{slot_of, integer_of, integer_at, term_value, HasTerm, HasIntegerSide, HasLiterals}
use Rattle.cub_proto.specs.Effect.{update_of}
use Rattle.replay.specs.Bound.{size_of, IsWithin}
use Rattle.replay.specs.Reads.{IsFiring, ReadsValue, ReadsUpdate, ReadsTarget, ReadsUpdates}
use Rattle.replay.specs.Writes.{HasTarget}
use Rattle.cub_proto.proofs.Targets.{update_found}
use Rattle.replay.proofs.Parts.{transition_parts, UpdateParts, update_parts}
use Rattle.cub_proto.proofs.Readable.{Fills, global_there, array_there, has_term, has_process_side, has_integer_side, has_conjunction}
use Rattle.cub_proto.proofs.Readable.{fills_more, sort_is_some}

pub integer_size : (v : Val) → unsigned_abs (integer_of v) ≤ size_of v
integer_size (Con c) = omega arith
integer_size (Proc i) = omega arith
integer_size (Int m) = omega arith

pub value_within : (s : Configuration) (bound : ℕ) → IsWithin bound s → (slot : Slot) → HasSlot s slot → size_of (value_at s slot) ≤ bound
value_within s bound within (Slot.Global g) h = within.globals_within g (Con 0) h
value_within s bound within (Slot.Cell a i) h = within.cells_within a [] h.0 i (Con 0) h.1

has_slot_of : (s : Configuration) (places : List ℕ) (t : Term) → HasTerm s places t → HasSlot s (slot_of places t)
has_slot_of s places (Term.Global g) h = h
has_slot_of s places (Term.Cell a place) h = h.1

pub term_within : (s : Configuration) (bound : ℕ) → IsWithin bound s → (places : List ℕ) (t : Term) → HasTerm s places t → size_of (term_value s places t) ≤ bound
term_within s bound within places t h = value_within s bound within (slot_of places t) (has_slot_of s places t h)

pub side_within : (s : Configuration) (bound : ℕ) → IsWithin bound s → (places : List ℕ) (side : ISide) → HasIntegerSide s places side → unsigned_abs (integer_at s places side) ≤ bound
side_within s bound within places Zero h = omega arith
side_within s bound within places (At t) h =
    omega (arith, integer_size (term_value s places t), term_within s bound within places t h)

module _ (p : Protocol) (s : Configuration) (state : IsStateOf p s) (bound : ℕ) (within : IsWithin bound s) (room : bound + greatest_constant ≤ 2 ^ 62) where
  module _ (width : ℕ) (places : List ℕ) (fills : Fills s places width) where
    reads_sum : (base : ISide) (add : ℤ) → (integer_side_fits (signature_of p) width base && nat_le (unsigned_abs add) greatest_constant) ≡ true → ReadsValue s places (Value.Sum base add)
    reads_sum base add h =
        let parts = and_parts (integer_side_fits (signature_of p) width base) (nat_le (unsigned_abs add) greatest_constant) h in
        let there = has_integer_side p s state width places fills base parts.0 in
        (there, omega (arith, side_within s bound within places base there, leb-true (unsigned_abs add) greatest_constant parts.1, room))

    pub reads_value : (sort : Sort) (v : Value) → value_fits (signature_of p) width sort v ≡ true → ReadsValue s places v
    reads_value (Sort.Fin k) (Value.Con c) h = tt
    reads_value (Sort.Fin k) (Value.Read t) h =
        let parts = and_parts (is_sort (sort_of (signature_of p) t) (Sort.Fin k)) (place_fits width t) h in
        has_term p s state width places fills t (sort_is_some (sort_of (signature_of p) t) (Sort.Fin k) parts.0) parts.1
    reads_value (Sort.Fin k) (Value.Proc side) h = absurd (let e : false ≡ true = h in cc)
    reads_value (Sort.Fin k) (Value.Sum base add) h = absurd (let e : false ≡ true = h in cc)
    reads_value (Sort.Fin k) Value.Any h = tt
    reads_value Sort.Proc (Value.Con c) h = tt
    reads_value Sort.Proc (Value.Read t) h = absurd (let e : false ≡ true = h in cc)
    reads_value Sort.Proc (Value.Proc side) h = has_process_side p s state width places fills side h
    reads_value Sort.Proc (Value.Sum base add) h = absurd (let e : false ≡ true = h in cc)
    reads_value Sort.Proc Value.Any h = tt
    reads_value Sort.Int (Value.Con c) h = tt
    reads_value Sort.Int (Value.Read t) h = absurd (let e : false ≡ true = h in cc)
    reads_value Sort.Int (Value.Proc side) h = absurd (let e : false ≡ true = h in cc)
    reads_value Sort.Int (Value.Sum base add) h = reads_sum base add h
    reads_value Sort.Int Value.Any h = tt

    pub reads_update : (o : Option Sort) (u : Update) → UpdateParts (signature_of p) width o u → ReadsUpdate s places u
    reads_update o u parts = record {
      conditions =
          All-weaker (λ b. branch_fits (signature_of p) width parts.sort b ≡ true) (λ b. HasLiterals s places b.cond)
          (λ b h. has_conjunction p s state width places fills b.cond
          (and_parts (conjunction_fits (signature_of p) width b.cond) (value_fits (signature_of p) width parts.sort b.value) h).0) u.branches parts.branches;
      values =
          All-weaker (λ b. branch_fits (signature_of p) width parts.sort b ≡ true) (λ b. ReadsValue s places b.value)
          (λ b h. reads_value parts.sort b.value
          (and_parts (conjunction_fits (signature_of p) width b.cond) (value_fits (signature_of p) width parts.sort b.value) h).1) u.branches parts.branches;
      last = reads_value parts.sort u.last parts.last;
    }

  module _ (params : List ℕ) (count : ℕ) (fills : Fills s params count) where
    reads_target : (u : Update) (target : Target) → update_fits_sort (signature_of p) (update_width count target) (target_sort (signature_of p) target) u ≡ true → HasTarget s target × ReadsTarget s params u target
    reads_target u (Target.Global g) h =
        let parts = update_parts (signature_of p) count (declared_sort p.globals g) u h in
        (global_there p s state g (ap is_some parts.is_sort), reads_update count params fills (declared_sort p.globals g) u parts)
    reads_target u (Target.Array a) h =
        let parts = update_parts (signature_of p) (count + 1) (declared_sort p.arrays a) u h in
        (array_there p s state a (ap is_some parts.is_sort), λ i inside. reads_update (count + 1) (params ++ i ∷ []) (fills_more s params count i fills inside) (declared_sort p.arrays a) u parts)

    pub reads_all : (us : List Update) → All (λ u. update_fits (signature_of p) count u ≡ true) us → ReadsUpdates s params us
    reads_all us fit =
        All-weaker (λ u. update_fits (signature_of p) count u ≡ true) (λ u. HasTarget s u.target × ReadsTarget s params u u.target)
        (λ u h. reads_target u u.target h) us fit

-- the updates of a firing
pub reads_firing : (p : Protocol) (s : Configuration) (t : Transition) (params : List ℕ) (bound : ℕ) → IsFiring p s t params → IsWithin bound s → bound + greatest_constant ≤ 2 ^ 62 → ReadsUpdates s params t.updates
reads_firing p s t params bound firing within room =
    reads_all p s firing.state_of bound within room params t.params (record { one_each = firing.one_each; processes = firing.processes }) t.updates
    (transition_parts (signature_of p) t firing.fits).updates

-- the update that is found for a target can be computed
pub reads_found : (s : Configuration) (params : List ℕ) (us : List Update) → ReadsUpdates s params us → (target : Target) (u : Update) → update_of us target ≡ Some u → ReadsTarget s params u target
reads_found s params us reads target u h =
    let found = update_found (λ v. HasTarget s v.target × ReadsTarget s params v v.target) us target u reads h in
    subst (ReadsTarget s params u) found.1 found.0.1
