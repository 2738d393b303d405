-- What is written in a line of a trace has no line feed.
use Rattle.std.proofs.Common.{◌≡◌, ℕ, zero, suc, ◌+◌, ◌^◌, ◌<◌, ◌≤◌, Bool, true, false, not, ◌||◌, ◌==◌, nat_lt, List, [], ◌∷◌, ◌++◌, length, Option, Some, None, pos, negsuc, refl, ap, sym, subst, arith, codes, decimal, flat_map}
use Rattle.std.specs.Prelude.{slice_get}
use Rattle.std.specs.List.{join_by}
use Rattle.std.specs.Option.{option_map_or}
use Rattle.cub_proto.specs.declared.literal.Sort.{Sort}
use Rattle.cub_proto.specs.declared.protocol.SortDecl.{SortDecl}
use Rattle.cub_proto.specs.declared.protocol.Protocol.{Protocol}
use Rattle.cub_proto.specs.declared.state.Slot.{Slot}
use Rattle.cub_proto.specs.declared.state.Val.{Val}
use Rattle.cub_proto.specs.declared.state.Val.TheVariants.{Con, Proc, Int}
use Rattle.cub_proto.specs.declared.event.Chosen.{Chosen}
use Rattle.text_lines.specs.Spelling.{process_text, processes_text, name_of, slot_text, slot_sort, constructor_text, value_text, entry_text}
use Rattle.text_lines.proofs.NameLaws.{constructor_word}
use Rattle.text_lines.proofs.LineLaws.{IsOneLine}
use Rattle.text_lines.proofs.LooseLaws.{AreSmall, IsWritable, HasDecl, global_word, array_word}
use Rattle.text_lines.proofs.OneLineLaws.{one_append, one_words, one_decimal, one_process}
use Rattle.cub_proto.specs.Signature.{constructors_of}
use Rattle.cub_proto.specs.StateOf.{signature_of}
use Rattle.std.specs.Prelude.{nat_le}
use Rattle.std.specs.List.{list_all}
use Rattle.std.proofs.lemmas.List.Sums.{count_by-le-length}
use Rattle.std.proofs.lemmas.Bool.{and_parts, not-true, ltb-true}
use Rattle.cub_proto.specs.declared.transition.Transition.{Transition}
use Rattle.cub_proto.specs.declared.protocol.Goal.{Goal}
use Rattle.cub_proto.specs.declared.event.Event.{Event}
use Rattle.cub_proto.specs.declared.event.Event.TheVariants.{Crash, Fire}
use Rattle.cub_proto.specs.declared.event.Plain.{Plain}
use Rattle.cub_proto.specs.Legal.{is_crash, picks_rise}
use Rattle.replay.specs.Bound.{size_of, greatest_start}
use Rattle.replay.specs.FitsEvent.{slot_takes, fits_transition, fits_event}
use Rattle.trace_text.specs.Text.{has_any, heading_text, version_text, count_text, pick_text, picks_text, transition_name, event_text, goal_text, plain_text}
use Rattle.trace_text.specs.Lawful.{is_empty, picks_are_lawful, is_lawful_event, has_places, is_lawful_goal, steps_in}
use Rattle.trace_text.proofs.ToldLaws.{MayBeWritten, AreWritten, are_written, are_small, within_list, transition_word, few_transitions}

nth : {X : Type 0} (xs : List X) (i : ℕ) → i < length xs → (x : X) × (slice_get xs i ≡ Some x)
nth [] i h = absurd (omega arith)
nth (x ∷ xs) zero h = (x, refl)
nth (x ∷ xs) (suc i) h = nth xs i (omega arith)

others_one : (is : List ℕ) → AreSmall is → IsOneLine (flat_map (λ i. (32 ∷ []) ++ process_text i) is)
others_one [] small = tt
others_one (i ∷ is) small =
    one_append ((32 ∷ []) ++ process_text i) (flat_map (λ j. (32 ∷ []) ++ process_text j) is) (refl, one_process i small.0) (others_one is small.1)

pub one_processes : (is : List ℕ) → AreSmall is → IsOneLine (processes_text is)
one_processes [] small = (refl, (refl, tt))
one_processes (i ∷ is) small =
    (refl, one_append (join_by process_text (32 ∷ []) (i ∷ is)) (41 ∷ []) (one_append (process_text i) (flat_map (λ j. (32 ∷ []) ++ process_text j) is) (one_process i small.0) (others_one is small.1)) (refl, tt))

constructor_one : (p : Protocol) (k c : ℕ) → c < constructors_of (signature_of p) (Sort.Fin k) → IsOneLine (value_text p (Some (Sort.Fin k)) (Con c))
constructor_one p k c within = by (slice_get p.sorts k) refl within
  where
    by : (o : Option SortDecl) → slice_get p.sorts k ≡ o → c < option_map_or (λ d. length d.cons) o 0 → IsOneLine (constructor_text o c)
    by None is inside = tt
    by (Some d) is inside =
        let there = nth d.cons c inside in
        let text : constructor_text (Some d) c ≡ there.0 = ap (λ o. option_map_or (λ name. name) o []) there.1 in
        subst IsOneLine (sym text) (one_words there.0 (constructor_word p k d c there.0 is there.1).0)

value_one : (p : Protocol) (n : ℕ) (sort : Sort) (v : Val) → IsWritable p n sort v → IsOneLine (value_text p (Some sort) v)
value_one p n (Sort.Fin k) (Con c) w = constructor_one p k c w.of_sort
value_one p n (Sort.Fin k) (Proc i) w = absurd w.of_sort
value_one p n (Sort.Fin k) (Int z) w = absurd w.of_sort
value_one p n Sort.Proc (Con c) w = absurd w.of_sort
value_one p n Sort.Proc (Proc i) w =
    let inside : i < n = w.of_sort in
    let few = w.few in
    one_process i (omega arith)
value_one p n Sort.Proc (Int z) w = absurd w.of_sort
value_one p n Sort.Int (Con c) w = absurd w.of_sort
value_one p n Sort.Int (Proc i) w = absurd w.of_sort
value_one p n Sort.Int (Int (pos m)) w =
    let small : m < 2 ^ 63 = w.whole (pos m) refl in
    one_decimal m (omega arith)
value_one p n Sort.Int (Int (negsuc m)) w =
    let small : suc m < 2 ^ 63 = w.whole (negsuc m) refl in
    (refl, one_decimal (suc m) (omega arith))

slot_one : (p : Protocol) (n : ℕ) (slot : Slot) → n ≤ 4294967295 → HasDecl p n slot → IsOneLine (slot_text p slot)
slot_one p n (Slot.Global g) few (d, is) =
    let text : name_of p.globals g ≡ d.name = ap (λ o. option_map_or (λ x. x.name) o []) is in
    subst IsOneLine (sym text) (one_words d.name (global_word p g d is).0)
slot_one p n (Slot.Cell a i) few (d, is, inside) =
    let text : name_of p.arrays a ≡ d.name = ap (λ o. option_map_or (λ x. x.name) o []) is in
    let name : IsOneLine (name_of p.arrays a) = subst IsOneLine (sym text) (one_words d.name (array_word p a d is).0) in
    one_append (name_of p.arrays a ++ 91 ∷ process_text i) (93 ∷ []) (one_append (name_of p.arrays a) (91 ∷ process_text i) name (refl, one_process i (omega arith))) (refl, tt)

pub one_entry : (p : Protocol) (n : ℕ) (slot : Slot) (v : Val) → MayBeWritten p n slot v → IsOneLine (entry_text p slot v)
one_entry p n slot v w =
    let value : IsOneLine (value_text p (slot_sort p slot) v) = subst (λ o. IsOneLine (value_text p o v)) (sym w.sorted) (value_one p n w.sort v w.writable) in
    one_append (slot_text p slot ++ codes " = ") (value_text p (slot_sort p slot) v)
    (one_append (slot_text p slot) (codes " = ") (slot_one p n slot w.writable.few w.has) (refl, (refl, (refl, tt)))) value

one_test : (xs : List ℕ) → list_all (λ b. not (b == 10)) xs ≡ true → IsOneLine xs
one_test [] h = tt
one_test (x ∷ xs) h =
    let parts = and_parts (not (x == 10)) (list_all (λ b. not (b == 10)) xs) h in
    (not-true (x == 10) parts.0, one_test xs parts.1)

pub one_heading : (c : Bool) → IsOneLine (heading_text c)
one_heading true = one_test (heading_text true) refl
one_heading false = one_test (heading_text false) refl

pub one_version : (b : Bool) → IsOneLine (version_text b)
one_version true = one_test (version_text true) refl
one_version false = one_test (version_text false) refl

pub one_count : (n : ℕ) → n ≤ 4294967295 → IsOneLine (count_text n)
one_count n small = one_append (codes "processes ") (decimal n) (one_test (codes "processes ") refl) (one_decimal n (omega arith))

pub one_plain : (at : Plain) → at.step ≤ 4294967295 → at.process ≤ 4294967295 → IsOneLine (plain_text at)
one_plain at few small =
    one_append (codes "plain " ++ decimal (at.step + 1) ++ codes " ") (process_text at.process)
    (one_append (codes "plain " ++ decimal (at.step + 1)) (codes " ") (one_append (codes "plain ") (decimal (at.step + 1)) (one_test (codes "plain ") refl) (one_decimal (at.step + 1) (omega arith))) (refl, tt))
    (one_process at.process small)

pub steps_few : (es : List Event) → steps_in es ≤ length es
steps_few es = count_by-le-length (λ e. not (is_crash e)) es

pub one_goal : (p : Protocol) (n : ℕ) (few : n ≤ 128) (goal : ℕ) (places : List ℕ) → is_lawful_goal p n goal places ≡ true → IsOneLine (goal_text goal places)
one_goal p n few goal places h = by (slice_get p.goals goal) refl parts.0
  where
    parts : (has_places (slice_get p.goals goal) places ≡ true) × (list_all (λ i. nat_lt i n) places ≡ true)
    parts = and_parts (has_places (slice_get p.goals goal) places) (list_all (λ i. nat_lt i n) places) h

    by : (o : Option Goal) → slice_get p.goals goal ≡ o → has_places o places ≡ true → IsOneLine (goal_text goal places)
    by None is has = absurd (let e : false ≡ true = has in cc)
    by (Some g) is has =
        let inside = within_list p.goals goal g is in
        let few_goals = (few_transitions p).1 in
        one_append (codes "unsafe " ++ decimal (goal + 1) ++ codes " ") (processes_text places)
        (one_append (codes "unsafe " ++ decimal (goal + 1)) (codes " ") (one_append (codes "unsafe ") (decimal (goal + 1)) (one_test (codes "unsafe ") refl) (one_decimal (goal + 1) (omega arith))) (refl, tt))
        (one_processes places (are_small n few places parts.1))

others_picks : (p : Protocol) (n : ℕ) (cs : List Chosen) → AreWritten p n cs → IsOneLine (flat_map (λ c. codes " && " ++ pick_text p c) cs)
others_picks p n [] w = tt
others_picks p n (c ∷ cs) w =
    one_append (codes " && " ++ pick_text p c) (flat_map (λ d. codes " && " ++ pick_text p d) cs)
    (one_append (codes " && ") (pick_text p c) (one_test (codes " && ") refl) (one_entry p n c.slot c.val w.0)) (others_picks p n cs w.1)

one_picks : (p : Protocol) (n : ℕ) (cs : List Chosen) → AreWritten p n cs → IsOneLine (picks_text p cs)
one_picks p n [] w = tt
one_picks p n (c ∷ cs) w =
    one_append (codes " with ") (pick_text p c ++ flat_map (λ d. codes " && " ++ pick_text p d) cs) (one_test (codes " with ") refl)
    (one_append (pick_text p c) (flat_map (λ d. codes " && " ++ pick_text p d) cs) (one_entry p n c.slot c.val w.0) (others_picks p n cs w.1))

pub one_event : (p : Protocol) (n : ℕ) (few : n ≤ 128) (e : Event) → is_lawful_event p n e ≡ true → IsOneLine (event_text p e)
one_event p n few (Crash i) h =
    let inside = ltb-true i n (and_parts (nat_lt i n) true h).0 in
    one_append (codes "crash ") (process_text i) (one_test (codes "crash ") refl) (one_process i (omega arith))
one_event p n few (Fire number params picks) h = by (slice_get p.transitions number) refl parts.0 small.1
  where
    parts : (fits_event p n (Fire number params picks) ≡ true) × (picks_are_lawful (has_any p) (Fire number params picks) ≡ true)
    parts = and_parts (fits_event p n (Fire number params picks)) (picks_are_lawful (has_any p) (Fire number params picks)) h

    small : ((has_any p || is_empty picks) ≡ true) × (list_all (λ c. nat_le (size_of c.val) greatest_start) picks ≡ true)
    small = and_parts (has_any p || is_empty picks) (list_all (λ c. nat_le (size_of c.val) greatest_start) picks) parts.1

    by : (o : Option Transition) → slice_get p.transitions number ≡ o → fits_transition p n o params picks ≡ true → list_all (λ c. nat_le (size_of c.val) greatest_start) picks ≡ true
        → IsOneLine (event_text p (Fire number params picks))
    by None is fit few_bits = absurd (let e : false ≡ true = fit in cc)
    by (Some t) is fit few_bits =
        let last = and_parts _ (list_all (λ c. slot_takes p n c.slot c.val) picks) fit in
        let rise = and_parts _ (picks_rise picks) last.0 in
        let firsts = and_parts (length params == t.params) (list_all (λ i. nat_lt i n) params) rise.0 in
        let name : transition_name p number ≡ t.name = ap (λ o. option_map_or (λ x. x.name) o []) is in
        let named : IsOneLine (transition_name p number) = subst IsOneLine (sym name) (one_words t.name (transition_word p number t is).0) in
        one_append (codes "step " ++ transition_name p number ++ processes_text params) (picks_text p picks)
        (one_append (codes "step " ++ transition_name p number) (processes_text params)
        (one_append (codes "step ") (transition_name p number) (one_test (codes "step ") refl) named) (one_processes params (are_small n few params firsts.1)))
        (one_picks p n picks (are_written p n few picks last.1 few_bits))
