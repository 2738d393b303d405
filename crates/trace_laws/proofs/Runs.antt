-- Steps that are free in their turns, with the crashes before them, are an accepted trace.
use Rattle.std.proofs.Common.{◌≡◌, ℕ, ◌+◌, Bool, true, cond, not, ◌||◌, ◌==◌, List, [], ◌∷◌, ◌++◌, filter, Option, Some, None, refl, sym, ap, ◌∙◌, subst, slice_get}
use Rattle.std.specs.Prelude.{IsTrue, IfSome, option_map}
use Rattle.std.specs.Option.{option_or}
use Rattle.std.specs.List.{list_all, list_any}
use Rattle.cub_base.proofs.Bools.{and_left, and_right, and_both, same_refl}
use Rattle.cub_proto.specs.declared.event.Event.{Event}
use Rattle.cub_proto.specs.declared.event.Plain.{Plain}
use Rattle.cub_proto.specs.declared.protocol.Protocol.{Protocol}
use Rattle.cub_proto.specs.Configuration.{Configuration}
use Rattle.cub_proto.specs.Legal.{IsStart, IsLegal, AreLegal, after, after_all}
use Rattle.cub_cube.specs.Crashes.{crashes}
use Rattle.replay.specs.declared.fault.StepFault.TheVariants.{Other}
use Rattle.replay.proofs.LegalFault.{no_fault_where_legal}
use Rattle.trace_judge.specs.Plain.{is_step, refused_at, first_fault, heading_fits, is_told}
use Rattle.trace_judge.specs.Judge.{IsAccepted}
use Rattle.trace_laws.specs.Blocked.{blocked, freed, with_crashes}
use Rattle.trace_laws.specs.Leads.{first_blocked, AreFree, LeadsTo}
use Rattle.trace_laws.proofs.Killing.{legal_append}

pub free_legal : (p : Protocol) (s : Configuration) (steps : List Event) → AreFree p s steps → AreLegal p s (with_crashes p s steps)
free_legal p s [] free = tt
free_legal p s (e ∷ es) free =
    legal_append p s (freed p s e) (with_crashes p (after_all p s (freed p s e)) es) free.0 (free_legal p (after_all p s (freed p s e)) es free.2)

-- ---- the steps alone
step_behind : (xs : List ℕ) (e : Event) (rest : List Event) → is_step e ≡ true → filter is_step ((crashes xs ++ e ∷ []) ++ rest) ≡ e ∷ filter is_step rest
step_behind [] e rest h = ap (λ b. cond b (e ∷ filter is_step rest) (filter is_step rest)) h
step_behind (i ∷ xs) e rest h = step_behind xs e rest h

pub steps_only : (p : Protocol) (s : Configuration) (steps : List Event) → IsTrue (list_all is_step steps) → filter is_step (with_crashes p s steps) ≡ steps
steps_only p s [] h = refl
steps_only p s (e ∷ es) h =
    step_behind (blocked p s e) e (with_crashes p (after_all p s (freed p s e)) es) (and_left (is_step e) (list_all is_step es) h)
    ∙ ap (λ xs. e ∷ xs) (steps_only p (after_all p s (freed p s e)) es (and_right (is_step e) (list_all is_step es) h))

abbrev is_some_crash : Event → Bool
is_some_crash e = not (is_step e)

none_crash : (e : Event) (rest : List Event) → is_step e ≡ true → list_any (λ d. not (is_step d)) (e ∷ rest) ≡ list_any (λ d. not (is_step d)) rest
none_crash e rest h = ap (λ b. not b || list_any (λ d. not (is_step d)) rest) h

some_crash : (xs : List ℕ) (i : ℕ) (e : Event) (rest : List Event) → slice_get xs 0 ≡ Some i → list_any (λ d. not (is_step d)) ((crashes xs ++ e ∷ []) ++ rest) ≡ true
some_crash [] i e rest h = cc
some_crash (j ∷ xs) i e rest h = refl

nobody : (xs : List ℕ) → slice_get xs 0 ≡ None → xs ≡ []
nobody [] h = refl
nobody (i ∷ xs) h = cc

-- what the heading and the plain line say
record IsToldBy (p : Protocol) (s : Configuration) (steps : List Event) (number : ℕ) (told : Option Plain) : Type 0 where
  heading : heading_fits told (with_crashes p s steps) ≡ true
  fails : IfSome told (λ q. is_told (first_fault p s steps number) q ≡ true)

told_none : (p : Protocol) (s : Configuration) (number : ℕ) → IsToldBy p s [] number None
told_none p s number = record { heading = refl; fails = tt }

same_heading : (o : Option Plain) (xs ys : List Event) → list_any (λ d. not (is_step d)) xs ≡ list_any (λ d. not (is_step d)) ys → heading_fits o ys ≡ true → heading_fits o xs ≡ true
same_heading None xs ys same h = ap not same ∙ h
same_heading (Some q) xs ys same h = same ∙ h

told : (p : Protocol) (s : Configuration) (steps : List Event) (number : ℕ) → IsTrue (list_all is_step steps) → AreFree p s steps → IsToldBy p s steps number (first_blocked p s steps number)
told p s [] number firings free = told_none p s number
told p s (e ∷ es) number firings free =
    by (slice_get (blocked p s e) 0) refl (told p (after_all p s (freed p s e)) es (number + 1) (and_right (is_step e) (list_all is_step es) firings) free.2)
  where
    later : Configuration
    later = after_all p s (freed p s e)

    rest : List Event
    rest = with_crashes p (after_all p s (freed p s e)) es

    is : is_step e ≡ true
    is = and_left (is_step e) (list_all is_step es) firings

    by : (o : Option ℕ) → slice_get (blocked p s e) 0 ≡ o → IsToldBy p (after_all p s (freed p s e)) es (number + 1) (first_blocked p (after_all p s (freed p s e)) es (number + 1))
        → IsToldBy p s (e ∷ es) number (option_or (option_map (λ i. let q : Plain = record { step = number; process = i } in q) o) (first_blocked p (after_all p s (freed p s e)) es (number + 1)))
    by (Some i) here more = record {
      heading = some_crash (blocked p s e) i e (with_crashes p (after_all p s (freed p s e)) es) here;
      fails =
          let fault : first_fault p s (e ∷ es) number ≡ Some (refused_at number (Other i)) =
          ap (λ o. option_or (option_map (refused_at number) o) (first_fault p (after p s e) es (number + 1))) (free.1 i here) in
          let q : Plain = record { step = number; process = i } in
          ap (λ o. is_told o q) fault ∙ and_both (number == number) (i == i) (same_refl number) (same_refl i);
    }
    by None here more =
        let none = nobody (blocked p s e) here in
        let same : after_all p s (freed p s e) ≡ after p s e = ap (λ xs. after_all p s (crashes xs ++ e ∷ [])) none in
        let events : with_crashes p s (e ∷ es) ≡ e ∷ with_crashes p (after_all p s (freed p s e)) es =
        ap (λ xs. (crashes xs ++ e ∷ []) ++ with_crashes p (after_all p s (freed p s e)) es) none in
        let legal : IsLegal p s e = (subst (λ xs. AreLegal p s (crashes xs ++ e ∷ [])) none free.0).0 in
        let fault : first_fault p s (e ∷ es) number ≡ first_fault p (after_all p s (freed p s e)) es (number + 1) =
        ap (λ o. option_or (option_map (refused_at number) o) (first_fault p (after p s e) es (number + 1))) (no_fault_where_legal p s e legal)
        ∙ ap (λ z. first_fault p z es (number + 1)) (sym same) in
        record {
          heading = same_heading (first_blocked p (after_all p s (freed p s e)) es (number + 1)) (with_crashes p s (e ∷ es)) (with_crashes p (after_all p s (freed p s e)) es)
              (ap (list_any (λ d. not (is_step d))) events ∙ none_crash e (with_crashes p (after_all p s (freed p s e)) es) is) more.heading;
          fails = subst (λ z. IfSome (first_blocked p (after_all p s (freed p s e)) es (number + 1)) (λ q. is_told z q ≡ true)) (sym fault) more.fails;
        }

-- the trace that the steps make
pub accepted : (p : Protocol) (s : Configuration) (steps : List Event) (goal : ℕ) (places : List ℕ) → IsStart p s → LeadsTo p s steps goal places
    → IsAccepted p s (with_crashes p s steps) goal places (first_blocked p s steps 0)
accepted p s steps goal places start leads =
    let says = told p s steps 0 leads.firings leads.free in
    record {
      unsafe_run = record { run = record { start = start; legal = free_legal p s steps leads.free }; ends = leads.ends };
      heading = says.heading;
      fails = subst (λ xs. IfSome (first_blocked p s steps 0) (λ q. is_told (first_fault p s xs 0) q ≡ true)) (sym (steps_only p s steps leads.firings)) says.fails;
    }
