-- An event that fits, and the transition that it names.
use Rattle.std.proofs.Common.{◌≡◌, ℕ, List, length, get_or, Some, refl, sym, ap, subst, ◌∙◌, slice_get, IsTrue, true}
use Rattle.std.proofs.lemmas.Option.{slice_get_read, slice_get_within, get_or_from_slice_get}
use Rattle.cub_proto.specs.declared.transition.Transition.{Transition}
use Rattle.cub_proto.specs.declared.event.Chosen.{Chosen}
use Rattle.cub_proto.specs.declared.event.Event.{Event}
use Rattle.cub_proto.specs.declared.event.Event.TheVariants.{Fire}
use Rattle.cub_proto.specs.declared.protocol.Protocol.{Protocol}
use Rattle.cub_proto.specs.Configuration.{Configuration, process_count}
use Rattle.cub_proto.specs.Fits.{transition_fits}
use Rattle.cub_proto.specs.StateOf.{IsStateOf, signature_of}
use Rattle.cub_proto.specs.Effect.{fired, picked}
use Rattle.cub_proto.specs.Legal.{after, fired_by, picks_rise}
use Rattle.replay.specs.FitsEvent.{FitsEvent}
use Rattle.replay.specs.Fault.{firing_fault, fault_of, fault_at}
use Rattle.replay.specs.Reads.{IsFiring}
use Rattle.replay.proofs.LegalFault.{FitsParts, fits_parts}

-- the transition of a number fits its protocol
pub transition_at : (p : Protocol) (number : ℕ) (t : Transition) → slice_get p.transitions number ≡ Some t → IsTrue (transition_fits (signature_of p) t)
transition_at p number t there =
    let within = slice_get_within p.transitions number t there in
    subst (λ x. IsTrue (transition_fits (signature_of p) x)) (get_or_from_slice_get p.transitions number t t there) (p.transitions_fit number t within)

module _ (p : Protocol) (s : Configuration) (e : Event) (number : ℕ) (params : List ℕ) (picks : List Chosen) (is_event : e ≡ Fire number params picks) (fits : FitsEvent p (process_count s) e) (t : Transition) (is : t ≡ get_or p.transitions number t) where
  parts_here : FitsParts p (process_count s) (slice_get p.transitions number) params picks
  parts_here =
      fits_parts p (process_count s) (slice_get p.transitions number) params picks (subst (FitsEvent p (process_count s)) is_event fits)

  there_here : slice_get p.transitions number ≡ Some t
  there_here =
      let within = slice_get_within p.transitions number parts_here.transition parts_here.is_there in
      slice_get_read p.transitions (length p.transitions) number t refl within is

  transition_same : parts_here.transition ≡ t
  transition_same = let e' : Some parts_here.transition ≡ Some t = sym parts_here.is_there ∙ there_here in cc

  pub firing_here : IsStateOf p s → IsFiring p s t params
  firing_here state = record {
    state_of = state;
    fits = transition_at p number t there_here;
    one_each = parts_here.one_each ∙ ap (λ x. x.params) transition_same;
    processes = parts_here.inside;
  }

  pub rising_here : picks_rise picks ≡ true
  rising_here = parts_here.rising

  pub fault_here : fault_at p s e ≡ firing_fault s t params picks
  fault_here = ap (fault_at p s) is_event ∙ ap (λ o. fault_of o s params picks) there_here

  pub after_here : after p s e ≡ fired s params t.updates (picked picks)
  after_here = ap (after p s) is_event ∙ ap (λ o. fired_by o s params picks) there_here
