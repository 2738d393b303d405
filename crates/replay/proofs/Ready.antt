-- A machine stays ready.
use Rattle.std.proofs.Common.{◌≡◌, ℕ, ◌+◌, ◌<◌, ◌≤◌, Some, None, true, List, sym, ap, subst, ◌∙◌, arith, All, slice_get}
use Rattle.std.proofs.lemmas.Bool.{and_parts}
use Rattle.std.proofs.lemmas.List.Elements.{All-weaker}
use Rattle.cub_proto.specs.declared.event.Chosen.{Chosen}
use Rattle.cub_proto.specs.declared.event.Event.{Event}
use Rattle.cub_proto.specs.declared.event.Event.TheVariants.{Crash, Fire}
use Rattle.cub_proto.specs.declared.state.Slot.{Slot}
use Rattle.cub_proto.specs.declared.state.Val.{Val}
use Rattle.cub_proto.specs.declared.protocol.Protocol.{Protocol}
use Rattle.cub_proto.specs.Configuration.{Configuration, process_count}
use Rattle.cub_proto.specs.Fits.{greatest_constant}
use Rattle.cub_proto.specs.StateOf.{IsStateOf, signature_of}
use Rattle.cub_proto.specs.Effect.{picked}
use Rattle.cub_proto.specs.Legal.{after, fired_by}
use Rattle.cub_proto.proofs.KeepsStates.{after_state}
use Rattle.replay.specs.Bound.{size_of, AreWithin, IsWithin, bound_after, most_events}
use Rattle.replay.specs.FitsEvent.{FitsEvent, slot_takes}
use Rattle.replay.specs.Fault.{is_free_slot, is_no_dead, is_allowed, fault_of, fault_at}
use Rattle.replay.specs.Machine.{IsReady}
use Rattle.replay.proofs.Parts.{transition_parts}
use Rattle.cub_proto.proofs.Readable.{Fills}
use Rattle.replay.proofs.LegalFault.{FitsParts, fits_parts, no_fault, picked_from, legal_without_fault}
use Rattle.replay.proofs.Applied.{transition_at}
use Rattle.replay.proofs.Within.{allowed_small, fired_within}

pub within_weaker : (a b : ℕ) (s : Configuration) → a ≤ b → IsWithin a s → IsWithin b s
within_weaker a b s less within = record {
  globals_within = All-weaker (λ v. size_of v ≤ a) (λ v. size_of v ≤ b) (λ v h. omega arith) s.globals within.globals_within;
  cells_within = All-weaker (AreWithin a) (AreWithin b) (λ vs each. All-weaker (λ v. size_of v ≤ a) (λ v. size_of v ≤ b) (λ v h. omega arith) vs each) s.arrays within.cells_within;
}

module _ (p : Protocol) (s : Configuration) (state : IsStateOf p s) (bound : ℕ) (within : IsWithin bound s) where
  fire_within : (number : ℕ) (params : List ℕ) (picks : List Chosen) → FitsParts p (process_count s) (slice_get p.transitions number) params picks → fault_of (slice_get p.transitions number) s params picks ≡ None → IsWithin (bound + greatest_constant) (fired_by (slice_get p.transitions number) s params picks)
  fire_within number params picks parts none =
      let t = parts.transition in
      let clean = no_fault p s t params picks (ap (λ o. fault_of o s params picks) (sym parts.is_there) ∙ none) in
      let fit = (transition_parts (signature_of p) t (transition_at p number t parts.is_there)).updates in
      let both : All (λ c. (slot_takes p (process_count s) c.slot c.val ≡ true) × (is_allowed s t.updates params c ≡ true)) picks = λ k d inside. (parts.slots k d inside, clean.allowed k d inside) in
      let fills : Fills s params t.params = record { one_each = parts.one_each; processes = parts.inside } in
      let small : (slot : Slot) (v : Val) → picked picks slot ≡ Some v → size_of v ≡ 0 = λ slot v is.
      (let from = picked_from (λ c. (slot_takes p (process_count s) c.slot c.val ≡ true) × (is_allowed s t.updates params c ≡ true)) picks slot v both is in
      let free = (and_parts (is_free_slot s t.updates params (from.0).slot) (is_no_dead s (from.0).val) from.1.1).0 in
      subst (λ w. size_of w ≡ 0) from.3 (allowed_small p s t.updates params t.params (from.0).slot (from.0).val fit from.1.0 free)) in
      subst (λ o. IsWithin (bound + greatest_constant) (fired_by o s params picks)) (sym parts.is_there)
      (fired_within p s state bound within params t.params fills t.updates fit (picked picks) small)

  pub after_within : (e : Event) → FitsEvent p (process_count s) e → fault_at p s e ≡ None → IsWithin (bound + greatest_constant) (after p s e)
  after_within (Crash i) fits none =
      (let more = within_weaker bound (bound + greatest_constant) s (omega arith) within in
      record { globals_within = more.globals_within; cells_within = more.cells_within })
  after_within (Fire number params picks) fits none =
      fire_within number params picks (fits_parts p (process_count s) (slice_get p.transitions number) params picks fits) none

-- after a legal event
pub ready_after : (p : Protocol) (s twin next copy : Configuration) (accepted : ℕ) (e : Event) → IsReady p s twin accepted → FitsEvent p (process_count s) e → accepted < most_events → fault_at p s e ≡ None → next ≡ after p s e → copy ≡ next → IsReady p next copy (accepted + 1)
ready_after p s twin next copy accepted e ready fits room none is same =
    let bound : bound_after accepted + greatest_constant ≡ bound_after (accepted + 1) = omega arith in
    record {
      state_of = subst (IsStateOf p) (sym is) (after_state p s e ready.state_of (legal_without_fault p s e fits none));
      same = same;
      within = subst (λ b. IsWithin b next) bound (subst (IsWithin (bound_after accepted + greatest_constant)) (sym is) (after_within p s ready.state_of (bound_after accepted) ready.within e fits none));
      few = omega arith;
    }
