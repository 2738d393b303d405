-- Steps made free one after another, where the machine stands behind the first ones.
use Rattle.std.proofs.Common.{◌≡◌, ℕ, ◌+◌, ◌<◌, ◌≤◌, List, [], ◌∷◌, ◌++◌, drop, length, get_or, Option, Some, None, refl, sym, ap, ◌∙◌, subst, arith, append_assoc, All, slice_get}
use Rattle.std.specs.Prelude.{option_map}
use Rattle.std.specs.Option.{option_or}
use Rattle.std.proofs.lemmas.List.{append-nil, drop_all, take_all, length-append}
use Rattle.cub_proto.specs.declared.event.Event.{Event}
use Rattle.cub_proto.specs.declared.event.Plain.{Plain}
use Rattle.cub_proto.specs.declared.protocol.Protocol.{Protocol}
use Rattle.cub_proto.specs.Configuration.{Configuration, process_count}
use Rattle.cub_proto.specs.Legal.{AreLegal, after_all}
use Rattle.replay.specs.Bound.{most_events}
use Rattle.replay.specs.FitsEvent.{FitsEvent}
use Rattle.replay.specs.Machine.{Replay, after_events}
use Rattle.trace_laws.specs.Blocked.{blocked, freed, with_crashes}
use Rattle.trace_laws.specs.Leads.{AreFree, LeadsTo, first_blocked}
use Rattle.trace_laws.proofs.Few.{few_events}
use Rattle.trace_laws.proofs.Fit.{legal_fit}
use Rattle.trace_build.proofs.Places.{drop_more}

abbrev pub plain_at : ℕ → Option ℕ → Option Plain
plain_at step process = option_map (λ i. record { step = step; process = i }) process

pub record Stands (p : Protocol) (start : Configuration) (steps : List Event) (number : ℕ) (m : Replay) (events : List Event) (plain : Option Plain) : Type 0 where
  pub protocol : m.protocol ≡ p
  pub accepted : m.accepted ≡ length events
  pub whole : events ++ with_crashes p m.state (drop number steps) ≡ with_crashes p start steps
  pub free : AreFree p m.state (drop number steps)
  pub told : option_or plain (first_blocked p m.state (drop number steps) number) ≡ first_blocked p start steps 0

pub stands_first : (p : Protocol) (start : Configuration) (steps : List Event) (goal : ℕ) (places : List ℕ) → LeadsTo p start steps goal places → (m : Replay) → m ≡ record { protocol = p; state = start; accepted = 0 }
    → Stands p start steps 0 m [] None
stands_first p start steps goal places leads m is =
    let first : Stands p start steps 0 (record { protocol = p; state = start; accepted = 0 }) [] None =
    record { protocol = refl; accepted = refl; whole = refl; free = leads.free; told = refl } in
    subst (λ r. Stands p start steps 0 r [] None) (sym is) first

or_again : (a b c : Option Plain) → option_or (option_or a b) c ≡ option_or a (option_or b c)
or_again None b c = refl
or_again (Some x) b c = refl

module _ (p : Protocol) (start : Configuration) (steps : List Event) (goal : ℕ) (places : List ℕ) (leads : LeadsTo p start steps goal places) (few : length steps + process_count start ≤ most_events)
    (number : ℕ) (m : Replay) (events : List Event) (plain : Option Plain) (stands : Stands p start steps number m events plain) where
  module _ (step : Event) (inside : number < length steps) (is : step ≡ get_or steps number step) where
    here : drop number steps ≡ step ∷ drop (number + 1) steps
    here = drop_more steps number step inside ∙ ap (λ x. x ∷ drop (number + 1) steps) (sym is)

    free_here : AreFree p m.state (step ∷ drop (number + 1) steps)
    free_here = subst (AreFree p m.state) here stands.free

    pub legal_here : AreLegal p m.state (freed p m.state step)
    legal_here = free_here.0

    pub fit_here : All (FitsEvent p (process_count m.state)) (freed p m.state step)
    fit_here = legal_fit p m.state (freed p m.state step) legal_here

    parted : events ++ (freed p m.state step ++ with_crashes p (after_all p m.state (freed p m.state step)) (drop (number + 1) steps)) ≡ with_crashes p start steps
    parted = ap (λ es. events ++ with_crashes p m.state es) (sym here) ∙ stands.whole

    pub room_here : m.accepted + length (freed p m.state step) ≤ most_events
    room_here =
        let most = few_events p start steps leads.firings leads.free in
        let rest = with_crashes p (after_all p m.state (freed p m.state step)) (drop (number + 1) steps) in
        let whole = ap length parted in
        let outer = length-append events (freed p m.state step ++ rest) in
        let inner = length-append (freed p m.state step) rest in
        let count = stands.accepted in
        omega arith

    pub stands_next : (after : Replay) (grown : List Event) (told : Option Plain) → after ≡ after_events m (freed p m.state step) (length (freed p m.state step)) → grown ≡ events ++ freed p m.state step
        → told ≡ option_or plain (plain_at number (slice_get (blocked p m.state step) 0)) → Stands p start steps (number + 1) after grown told
    stands_next after grown told is_after is_grown is_told =
        let es = freed p m.state step in
        let state : after.state ≡ after_all p m.state es =
        ap (λ (r : Replay). r.state) is_after ∙ ap (λ xs. after_all m.protocol m.state xs) (take_all (length es) es (omega arith)) ∙ ap (λ q. after_all q m.state es) stands.protocol in
        let rest = drop (number + 1) steps in
        record {
          protocol = ap (λ (r : Replay). r.protocol) is_after ∙ stands.protocol;
          accepted =
              let count = stands.accepted in
              let joined = ap length is_grown ∙ length-append events es in
              let accepted = ap (λ (r : Replay). r.accepted) is_after in
              omega arith;
          whole =
              ap (λ xs. xs ++ with_crashes p after.state rest) is_grown ∙ ap (λ z. (events ++ es) ++ with_crashes p z rest) state
              ∙ append_assoc events es (with_crashes p (after_all p m.state es) rest) ∙ parted;
          free = subst (λ z. AreFree p z rest) (sym state) free_here.2;
          told =
              ap (λ o. option_or o (first_blocked p after.state rest (number + 1))) is_told
              ∙ ap (λ z. option_or (option_or plain (plain_at number (slice_get (blocked p m.state step) 0))) (first_blocked p z rest (number + 1))) state
              ∙ or_again plain (plain_at number (slice_get (blocked p m.state step) 0)) (first_blocked p (after_all p m.state es) rest (number + 1))
              ∙ ap (λ xs. option_or plain (first_blocked p m.state xs number)) (sym here) ∙ stands.told;
        }

  module _ (past : length steps ≤ number) where
    done : drop number steps ≡ []
    done = drop_all number steps past

    pub events_done : events ≡ with_crashes p start steps
    events_done = sym (append-nil events) ∙ ap (λ es. events ++ with_crashes p m.state es) (sym done) ∙ stands.whole

    or_none : (o : Option Plain) → option_or o None ≡ o
    or_none None = refl
    or_none (Some x) = refl

    pub plain_done : plain ≡ first_blocked p start steps 0
    plain_done = sym (or_none plain) ∙ ap (λ es. option_or plain (first_blocked p m.state es number)) (sym done) ∙ stands.told

-- the step that comes next of a vector of the steps
pub turned : (xs steps yielded : List Event) (step : Event) (number : ℕ) → xs ≡ steps → number ≡ length yielded → (length yielded < length xs) × (step ≡ get_or xs (length yielded) step)
    → (number < length steps) × (step ≡ get_or steps number step)
turned xs steps yielded step number are count turn = (
  let size = ap length are in let less = turn.0 in omega arith,
  turn.1 ∙ ap (λ ys. get_or ys (length yielded) step) are ∙ ap (λ n. get_or steps n step) (sym count),
)
