-- The step and the process at which the steps alone fail are there.
use Rattle.std.proofs.Common.{◌≡◌, ℕ, ◌+◌, ◌<◌, Bool, true, false, not, ◌==◌, List, [], ◌∷◌, length, Option, Some, None, slice_get, refl, ap, subst, ◌∙◌, arith, All}
use Rattle.std.specs.Prelude.{filter, count_by, option_map}
use Rattle.std.specs.List.{range_with_len}
use Rattle.std.specs.Option.{option_or}
use Rattle.std.proofs.lemmas.List.FromFn.{length-range_with_len, get_or-range_with_len}
use Rattle.std.proofs.lemmas.List.Sums.{length-filter}
use Rattle.cub_base.proofs.Bools.{and_left, and_right, same_is}
use Rattle.cub_base.proofs.Searches.{found_fits}
use Rattle.cub_proto.specs.declared.transition.Transition.{Transition}
use Rattle.cub_proto.specs.declared.event.Chosen.{Chosen}
use Rattle.cub_proto.specs.declared.event.Event.{Event}
use Rattle.cub_proto.specs.declared.event.Event.TheVariants.{Crash, Fire}
use Rattle.cub_proto.specs.declared.event.Plain.{Plain}
use Rattle.cub_proto.specs.declared.protocol.Protocol.{Protocol}
use Rattle.cub_proto.specs.Configuration.{Configuration, process_count, is_alive}
use Rattle.cub_proto.specs.Legal.{is_crash, after}
use Rattle.cub_proto.specs.Truth.{any_true}
use Rattle.replay.specs.declared.fault.StepFault.{StepFault}
use Rattle.replay.specs.declared.fault.StepFault.TheVariants.{Dead, Equal, Guard, Other, Pick}
use Rattle.replay.specs.Fault.{first_dead, first_repeat, is_blocking, first_blocking, first_refused, guard_fault, firing_fault, crash_fault, fault_of, fault_at}
use Rattle.trace_judge.specs.Plain.{is_step, refused_at, first_fault, is_other, is_told, fails_plainly}
use Rattle.trace_text.specs.Lawful.{steps_in}
use Rattle.trace_laws.proofs.Chains.{count_after}

range_below : (n : ℕ) → All (λ i. i < n) (range_with_len 0 n)
range_below n k d below =
    let count : length (range_with_len 0 n) ≡ n = length-range_with_len 0 n in
    let inside : k < n = omega arith in
    let is = get_or-range_with_len 0 n k d inside in
    omega arith

-- ---- a fault in the universal guard is at one of the processes
blocking_inside : (s : Configuration) (t : Transition) (params : List ℕ) (i : ℕ) → first_blocking s t.others params ≡ Some i → i < process_count s
blocking_inside s t params i is =
    (found_fits (λ j. j < process_count s) (is_blocking s t.others params) (range_with_len 0 (process_count s)) i (range_below (process_count s)) is).0

module _ (s : Configuration) (t : Transition) (params : List ℕ) (picks : List Chosen) (i : ℕ) where
  abbrev IsAtOther : Option StepFault → Type 0
  IsAtOther o = o ≡ Some (Other i) → i < process_count s

  no_pick : (o : Option Chosen) → IsAtOther (option_map (λ c. Pick c.slot) o)
  no_pick None h = absurd (let no : None ≡ Some (Other i) = h in cc)
  no_pick (Some c) h = absurd (let no : Some (Pick c.slot) ≡ Some (Other i) = h in cc)

  at_blocking : (o : Option ℕ) → first_blocking s t.others params ≡ o → IsAtOther (option_or (option_map (λ j. Other j) o) (option_map (λ c. Pick c.slot) (first_refused s t.updates params picks)))
  at_blocking None is h = no_pick (first_refused s t.updates params picks) h
  at_blocking (Some j) is h = let same : j ≡ i = (let this : Some (Other j) ≡ Some (Other i) = h in cc) in blocking_inside s t params i (is ∙ ap (λ k. Some k) same)

  at_guard : (b : Bool) (rest : Option StepFault) → IsAtOther rest → IsAtOther (option_or (guard_fault b) rest)
  at_guard true rest next h = next h
  at_guard false rest next h = absurd (let no : Some Guard ≡ Some (Other i) = h in cc)

  at_repeat : (o : Option ℕ) (rest : Option StepFault) → IsAtOther rest → IsAtOther (option_or (option_map (λ j. Equal j) o) rest)
  at_repeat None rest next h = next h
  at_repeat (Some j) rest next h = absurd (let no : Some (Equal j) ≡ Some (Other i) = h in cc)

  at_dead : (o : Option ℕ) (rest : Option StepFault) → IsAtOther rest → IsAtOther (option_or (option_map (λ j. Dead j) o) rest)
  at_dead None rest next h = next h
  at_dead (Some j) rest next h = absurd (let no : Some (Dead j) ≡ Some (Other i) = h in cc)

  at_firing : IsAtOther (firing_fault s t params picks)
  at_firing =
      at_dead (first_dead s params) _ (at_repeat (first_repeat params) _ (at_guard (any_true s params t.guard) _ (at_blocking (first_blocking s t.others params) refl)))

other_inside : (p : Protocol) (s : Configuration) (e : Event) (i : ℕ) → fault_at p s e ≡ Some (Other i) → i < process_count s
other_inside p s (Crash j) i h = by (is_alive s j) h
  where
    by : (b : Bool) → crash_fault j b ≡ Some (Other i) → i < process_count s
    by true is = absurd (let no : None ≡ Some (Other i) = is in cc)
    by false is = absurd (let no : Some (Dead j) ≡ Some (Other i) = is in cc)
other_inside p s (Fire number params picks) i h = by (slice_get p.transitions number) h
  where
    by : (o : Option Transition) → fault_of o s params picks ≡ Some (Other i) → i < process_count s
    by None is = absurd (let no : None ≡ Some (Other i) = is in cc)
    by (Some t) is = at_firing s t params picks i is

pub is_other_at : (f : StepFault) (process : ℕ) → is_other f process ≡ true → f ≡ Other process
is_other_at (Other i) process h = ap (λ j. Other j) (same_is i process h)
is_other_at (Dead i) process h = absurd (let no : false ≡ true = h in cc)
is_other_at (Equal i) process h = absurd (let no : false ≡ true = h in cc)
is_other_at Guard process h = absurd (let no : false ≡ true = h in cc)
is_other_at (Pick slot) process h = absurd (let no : false ≡ true = h in cc)

-- ---- the first fault of the steps
told_inside : (p : Protocol) (s : Configuration) (es : List Event) (number : ℕ) (told : Plain) → is_told (first_fault p s es number) told ≡ true → (told.step < number + length es) × (told.process < process_count s)
told_inside p s [] number told h = absurd (let no : false ≡ true = h in cc)
told_inside p s (e ∷ es) number told h = by (fault_at p s e) refl h (told_inside p (after p s e) es (number + 1) told)
  where
    by : (o : Option StepFault) → fault_at p s e ≡ o → is_told (option_or (option_map (refused_at number) o) (first_fault p (after p s e) es (number + 1))) told ≡ true
        → (is_told (first_fault p (after p s e) es (number + 1)) told ≡ true → (told.step < number + 1 + length es) × (told.process < process_count (after p s e)))
        → (told.step < number + length (e ∷ es)) × (told.process < process_count s)
    by None is later rest =
        let inside = rest later in
        let step = inside.0 in
        (omega arith, subst (λ n. told.process < n) (count_after p s e) inside.1)
    by (Some f) is here rest =
        let at : number ≡ told.step = same_is number told.step (and_left (number == told.step) (is_other f told.process) here) in
        let other : f ≡ Other told.process = is_other_at f told.process (and_right (number == told.step) (is_other f told.process) here) in
        (omega arith, other_inside p s e told.process (is ∙ ap (λ g. Some g) other))

-- steps are the events that are no crash
steps_are : (es : List Event) → length (filter is_step es) ≡ steps_in es
steps_are es = length-filter is_step es ∙ ap (λ (test : Event → Bool). count_by test es) same
  where
    one : (e : Event) → is_step e ≡ not (is_crash e)
    one (Crash i) = refl
    one (Fire number params picks) = refl

    same : is_step ≡ (λ (e : Event). not (is_crash e))
    same = λ i e. one e i

pub plain_inside : (p : Protocol) (s : Configuration) (events : List Event) (told : Plain) → fails_plainly p s events told ≡ true → (told.step < steps_in events) × (told.process < process_count s)
plain_inside p s events told h =
    let inside = told_inside p s (filter is_step events) 0 told h in
    let count = steps_are events in
    let step = inside.0 in
    (omega arith, inside.1)
