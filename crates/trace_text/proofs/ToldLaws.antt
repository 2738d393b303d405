-- What was written in a line of a trace is told by its words.
use Rattle.std.proofs.Common.{◌≡◌, ℕ, zero, suc, ◌+◌, ◌^◌, ◌<◌, ◌≤◌, true, false, cond, ◌||◌, ◌==◌, nat_lt, List, [], ◌∷◌, ◌++◌, length, map, Option, Some, None, unsigned_abs, refl, ap, sym, ◌∙◌, arith, append_assoc, append-nil, codes, decimal, flat_map, bytes_eq, length-append}
use Rattle.std.specs.Prelude.{slice_get, nat_le}
use Rattle.std.specs.List.{list_all}
use Rattle.std.specs.Option.{option_map_or, option_map}
use Rattle.std.proofs.lemmas.Bool.{and_parts, leb-true, ltb-true, eqb-true}
use Rattle.cub_base.proofs.Elements.{from_all}
use Rattle.cub_proto.specs.declared.literal.Sort.{Sort}
use Rattle.cub_proto.specs.declared.transition.Transition.{Transition}
use Rattle.cub_proto.specs.declared.protocol.Protocol.{Protocol}
use Rattle.cub_proto.specs.declared.protocol.Decl.{Decl}
use Rattle.cub_proto.specs.declared.protocol.Goal.{Goal}
use Rattle.cub_proto.specs.declared.state.Slot.{Slot}
use Rattle.cub_proto.specs.declared.state.Val.{Val}
use Rattle.cub_proto.specs.declared.state.Val.TheVariants.{Con, Proc, Int}
use Rattle.cub_proto.specs.declared.event.Chosen.{Chosen}
use Rattle.cub_proto.specs.declared.event.Event.{Event}
use Rattle.cub_proto.specs.declared.event.Event.TheVariants.{Crash, Fire}
use Rattle.cub_proto.specs.declared.event.Plain.{Plain}
use Rattle.cub_proto.specs.Signature.{Signature, constructors_of, declared_sort}
use Rattle.cub_proto.specs.StateOf.{signature_of, IsOfSort}
use Rattle.cub_proto.specs.Fits.{are_distinct, transition_fits}
use Rattle.cub_base.specs.Name.{is_declarable}
use Rattle.replay.specs.Bound.{size_of, greatest_start}
use Rattle.replay.specs.FitsEvent.{is_of_sort, is_declared, slot_takes, fits_transition, fits_event}
use Rattle.replay.specs.FitsStart.{is_start_value}
use Rattle.cub_proto.specs.Legal.{picks_rise}
use Rattle.text_lines.specs.Word.{back, word, behind}
use Rattle.text_lines.specs.Number.{counted}
use Rattle.text_lines.specs.Named.{number_of}
use Rattle.text_lines.specs.Spelling.{process_text, processes_text, name_of, slot_text, slot_sort, value_text, entry_text}
use Rattle.text_lines.specs.Loose.{processes_in, behind_words, value_in, slot_in, behind_equal, entry_value}
use Rattle.text_lines.proofs.WordLaws.{AreWordBytes, Stops, first_word, behind_first}
use Rattle.text_lines.proofs.NumberLaws.{decimal_words, decimal_some, counted_written}
use Rattle.text_lines.proofs.NameLaws.{number_found, name_is_word, all_at}
use Rattle.text_lines.proofs.LooseLaws.{AreSmall, IsWritable, HasDecl, processes_read, behind_processes, global_word, array_word, entry_slot, entry_val, behind_entry}
use Rattle.trace_text.specs.Text.{has_any, count_text, pick_text, picks_text, transition_name, event_text, goal_text, plain_text}
use Rattle.trace_text.specs.Lawful.{picks_are_lawful, is_empty, is_lawful_event, has_places, is_lawful_goal}
use Rattle.trace_text.specs.Told.{pick_told, behind_pick, picks_told, firing_told, event_told, places_told, goal_told, goal_places, plain_told}

pub within_list : {X : Type 0} (xs : List X) (i : ℕ) (x : X) → slice_get xs i ≡ Some x → i < length xs
within_list [] i x h = cc
within_list (y ∷ ys) zero x h = omega arith
within_list (y ∷ ys) (suc i) x h = omega (arith, within_list ys i x h)

-- a word that ends its line
last_word : (w : List ℕ) → AreWordBytes w → 0 < length w → word w ≡ w
last_word w all some = ap word (sym (append-nil w)) ∙ first_word w [] all some tt

last_counted : (i : ℕ) → i ≤ 4294967295 → counted (word (decimal (i + 1))) ≡ i
last_counted i small =
    let fits : i + 1 < 2 ^ 64 = omega arith in
    ap counted (last_word (decimal (i + 1)) (decimal_words (i + 1) fits) (decimal_some (i + 1) fits)) ∙ counted_written i small

last_process : (i : ℕ) → i ≤ 4294967295 → counted (word (process_text i)) ≡ i
last_process i small = last_counted i small

-- the number of processes
pub count_is_told : (n : ℕ) → n ≤ 4294967295 → counted (word (behind (count_text (n + 1)))) ≡ n
count_is_told n small = last_counted n small

-- the sort of a value, as a fact
pub of_sort_fact : (sig : Signature) (n : ℕ) (sort : Sort) (v : Val) → is_of_sort sig n sort v ≡ true → IsOfSort sig n sort v
of_sort_fact sig n (Sort.Fin k) (Con c) h = ltb-true c (constructors_of sig (Sort.Fin k)) h
of_sort_fact sig n (Sort.Fin k) (Proc i) h = absurd (let e : false ≡ true = h in cc)
of_sort_fact sig n (Sort.Fin k) (Int z) h = absurd (let e : false ≡ true = h in cc)
of_sort_fact sig n Sort.Proc (Con c) h = absurd (let e : false ≡ true = h in cc)
of_sort_fact sig n Sort.Proc (Proc i) h = ltb-true i n h
of_sort_fact sig n Sort.Proc (Int z) h = absurd (let e : false ≡ true = h in cc)
of_sort_fact sig n Sort.Int (Con c) h = absurd (let e : false ≡ true = h in cc)
of_sort_fact sig n Sort.Int (Proc i) h = absurd (let e : false ≡ true = h in cc)
of_sort_fact sig n Sort.Int (Int z) h = tt

-- a value that may be written at a slot
pub record MayBeWritten (p : Protocol) (n : ℕ) (slot : Slot) (v : Val) : Type 0 where
  pub has : HasDecl p n slot
  pub sort : Sort
  pub sorted : slot_sort p slot ≡ Some sort
  pub writable : IsWritable p n sort v

module _ (p : Protocol) (n : ℕ) (few : n ≤ 128) (v : Val) (small : nat_le (size_of v) greatest_start ≡ true) where
  writable : (sort : Sort) → is_of_sort (signature_of p) n sort v ≡ true → IsWritable p n sort v
  writable sort h = record {
    of_sort = of_sort_fact (signature_of p) n sort v h;
    few = omega arith;
    whole = λ z is.
        let bound : size_of v ≤ greatest_start = leb-true (size_of v) greatest_start small in
        let own : size_of v ≡ unsigned_abs z = ap size_of is in
        omega arith;
  }

  pub may_be_written : (slot : Slot) → slot_takes p n slot v ≡ true → MayBeWritten p n slot v
  may_be_written (Slot.Global g) takes = by (slice_get p.globals g) refl takes
    where
      by : (o : Option Decl) → slice_get p.globals g ≡ o → is_declared (signature_of p) n (option_map (λ d. d.sort) o) v ≡ true → MayBeWritten p n (Slot.Global g) v
      by None is h = absurd (let e : false ≡ true = h in cc)
      by (Some d) is h = record { has = (d, is); sort = d.sort; sorted = ap (option_map (λ x. x.sort)) is; writable = writable d.sort h }
  may_be_written (Slot.Cell a i) takes =
      let parts = and_parts (nat_lt i n) (is_declared (signature_of p) n (declared_sort p.arrays a) v) takes in
      by (ltb-true i n parts.0) (slice_get p.arrays a) refl parts.1
    where
      by : i < n → (o : Option Decl) → slice_get p.arrays a ≡ o → is_declared (signature_of p) n (option_map (λ d. d.sort) o) v ≡ true → MayBeWritten p n (Slot.Cell a i) v
      by inside None is h = absurd (let e : false ≡ true = h in cc)
      by inside (Some d) is h = record { has = (d, is, inside); sort = d.sort; sorted = ap (option_map (λ x. x.sort)) is; writable = writable d.sort h }

-- a start value
pub value_is_told : (p : Protocol) (n : ℕ) (few : n ≤ 128) (slot : Slot) (v : Val) → is_start_value p n slot v ≡ true → entry_value p slot (entry_text p slot v) ≡ v
value_is_told p n few slot v h =
    let parts = and_parts (slot_takes p n slot v) (nat_le (size_of v) greatest_start) h in
    let w = may_be_written p n few v parts.1 slot parts.0 in
    ap (entry_value p slot) (sym (append-nil (entry_text p slot v))) ∙ entry_val p n slot v [] w.has w.sort w.sorted w.writable tt

-- picks
abbrev pub AreWritten : Protocol → ℕ → List Chosen → Type 0
AreWritten p n [] = Unit {0}
AreWritten p n (c ∷ cs) = MayBeWritten p n c.slot c.val × AreWritten p n cs

pub are_written : (p : Protocol) (n : ℕ) (few : n ≤ 128) (picks : List Chosen) → list_all (λ c. slot_takes p n c.slot c.val) picks ≡ true
    → list_all (λ c. nat_le (size_of c.val) greatest_start) picks ≡ true → AreWritten p n picks
are_written p n few [] takes small = tt
are_written p n few (c ∷ cs) takes small =
    let t = and_parts (slot_takes p n c.slot c.val) (list_all (λ d. slot_takes p n d.slot d.val) cs) takes in
    let s = and_parts (nat_le (size_of c.val) greatest_start) (list_all (λ d. nat_le (size_of d.val) greatest_start) cs) small in
    (may_be_written p n few c.val s.0 c.slot t.0, are_written p n few cs t.1 s.1)

abbrev others : Protocol → List Chosen → List ℕ
others p cs = flat_map (λ c. codes " && " ++ pick_text p c) cs

others_stop : (p : Protocol) (cs : List Chosen) → Stops (others p cs)
others_stop p [] = tt
others_stop p (c ∷ cs) = refl

behind_blank : (slot : Slot) (t : List ℕ) → behind_equal slot (32 ∷ t) ≡ behind_equal slot t
behind_blank (Slot.Global g) t = refl
behind_blank (Slot.Cell a i) t = refl

nonempty : (w : List ℕ) → 0 < length w → bytes_eq w [] ≡ false
nonempty [] some = absurd (omega arith)
nonempty (b ∷ bs) some = refl

slot_word : (p : Protocol) (n : ℕ) (slot : Slot) (more : List ℕ) → HasDecl p n slot → bytes_eq (word (slot_text p slot ++ 32 ∷ more)) [] ≡ false
slot_word p n (Slot.Global g) more (d, is) =
    let w = global_word p g d is in
    let text : name_of p.globals g ≡ d.name = ap (λ o. option_map_or (λ x. x.name) o []) is in
    ap (λ t. bytes_eq (word (t ++ 32 ∷ more)) []) text ∙ ap (λ t. bytes_eq t []) (first_word d.name (32 ∷ more) w.0 w.1 refl) ∙ nonempty d.name w.1
slot_word p n (Slot.Cell a i) more (d, is, inside) =
    let w = array_word p a d is in
    let text : name_of p.arrays a ≡ d.name = ap (λ o. option_map_or (λ x. x.name) o []) is in
    let tail = 91 ∷ process_text i ++ 93 ∷ 32 ∷ more in
    let opened : slot_text p (Slot.Cell a i) ++ 32 ∷ more ≡ name_of p.arrays a ++ tail =
    append_assoc (name_of p.arrays a ++ 91 ∷ process_text i) (93 ∷ []) (32 ∷ more) ∙ append_assoc (name_of p.arrays a) (91 ∷ process_text i) (93 ∷ 32 ∷ more) in
    ap (λ t. bytes_eq (word t) []) opened ∙ ap (λ t. bytes_eq (word (t ++ tail)) []) text
    ∙ ap (λ t. bytes_eq t []) (first_word d.name tail w.0 w.1 refl) ∙ nonempty d.name w.1

abbrev make : Slot → Val → Chosen
make slot v = record { slot = slot; val = v }

entry_open : (p : Protocol) (slot : Slot) (v : Val) (rest : List ℕ) → entry_text p slot v ++ rest ≡ slot_text p slot ++ 32 ∷ 61 ∷ 32 ∷ (value_text p (slot_sort p slot) v ++ rest)
entry_open p slot v rest =
    append_assoc (slot_text p slot ++ codes " = ") (value_text p (slot_sort p slot) v) rest
    ∙ append_assoc (slot_text p slot) (codes " = ") (value_text p (slot_sort p slot) v ++ rest)

one_pick : (p : Protocol) (n fuel : ℕ) (c : Chosen) (rest : List ℕ) → Stops rest → MayBeWritten p n c.slot c.val
    → picks_told p (suc fuel) (32 ∷ (pick_text p c ++ rest)) ≡ c ∷ picks_told p fuel (behind rest)
one_pick p n fuel c rest stop w =
    let t = pick_text p c ++ rest in
    let slot : slot_in p (32 ∷ t) ≡ c.slot = entry_slot p n c.slot c.val rest w.has w.sort w.sorted w.writable stop in
    let val : entry_value p c.slot (32 ∷ t) ≡ c.val =
    ap (λ b. value_in p (slot_sort p c.slot) (word b)) (behind_blank c.slot t) ∙ entry_val p n c.slot c.val rest w.has w.sort w.sorted w.writable stop in
    let pick : pick_told p (32 ∷ t) ≡ c = ap (λ x. make x (entry_value p x (32 ∷ t))) slot ∙ ap (make c.slot) val in
    let left : behind_pick p (32 ∷ t) ≡ rest =
    ap (λ x. behind (behind_equal x (32 ∷ t))) slot ∙ ap behind (behind_blank c.slot t) ∙ behind_entry p n c.slot c.val rest w.has w.sort w.sorted w.writable stop in
    let test : bytes_eq (word (32 ∷ t)) [] ≡ false =
    ap (λ b. bytes_eq (word b) []) (entry_open p c.slot c.val rest) ∙ slot_word p n c.slot (61 ∷ 32 ∷ (value_text p (slot_sort p c.slot) c.val ++ rest)) w.has in
    ap (λ b. cond b [] (pick_told p (32 ∷ t) ∷ picks_told p fuel (behind (behind_pick p (32 ∷ t))))) test
    ∙ ap (λ x. x ∷ picks_told p fuel (behind (behind_pick p (32 ∷ t)))) pick ∙ ap (λ b. c ∷ picks_told p fuel (behind b)) left

none_told : (p : Protocol) (fuel : ℕ) → picks_told p fuel [] ≡ []
none_told p zero = refl
none_told p (suc fuel) = refl

picks_read : (p : Protocol) (n : ℕ) (fuel : ℕ) (c : Chosen) (cs : List Chosen) → length (c ∷ cs) ≤ fuel → AreWritten p n (c ∷ cs)
    → picks_told p fuel (32 ∷ (pick_text p c ++ others p cs)) ≡ c ∷ cs
picks_read p n zero c cs enough w = absurd (omega arith)
picks_read p n (suc fuel) c [] enough w = one_pick p n fuel c [] tt w.0 ∙ ap (λ cs. c ∷ cs) (none_told p fuel)
picks_read p n (suc fuel) c (d ∷ ds) enough w =
    one_pick p n fuel c (others p (d ∷ ds)) refl w.0 ∙ ap (λ cs. c ∷ cs) (picks_read p n fuel d ds (omega arith) w.1)

others_len : (p : Protocol) (cs : List Chosen) → length cs ≤ length (others p cs)
others_len p [] = omega arith
others_len p (c ∷ cs) =
    let l = length-append (codes " && " ++ pick_text p c) (others p cs) in
    let k = length-append (codes " && ") (pick_text p c) in
    omega (arith, l, k, others_len p cs)

picks_of_line : (p : Protocol) (n fuel : ℕ) (picks : List Chosen) → length picks ≤ fuel → AreWritten p n picks → picks_told p fuel (behind (picks_text p picks)) ≡ picks
picks_of_line p n fuel [] enough w = none_told p fuel
picks_of_line p n fuel (c ∷ cs) enough w = picks_read p n fuel c cs enough w

picks_len : (p : Protocol) (picks : List Chosen) → length picks ≤ length (picks_text p picks)
picks_len p [] = omega arith
picks_len p (c ∷ cs) =
    let l = length-append (pick_text p c) (others p cs) in
    let k = length-append (codes " with ") (pick_text p c ++ others p cs) in
    omega (arith, l, k, others_len p cs)

pub are_small : (n : ℕ) (few : n ≤ 128) (is : List ℕ) → list_all (λ i. nat_lt i n) is ≡ true → AreSmall is
are_small n few [] h = tt
are_small n few (i ∷ is) h =
    let parts = and_parts (nat_lt i n) (list_all (λ j. nat_lt j n) is) h in
    let inside = ltb-true i n parts.0 in
    (omega arith, are_small n few is parts.1)

module _ (p : Protocol) where
  transition_found : (number : ℕ) (t : Transition) → slice_get p.transitions number ≡ Some t → number ≤ 65535 → number_of (λ x. x.name) p.transitions t.name ≡ number
  transition_found number t is few =
      number_found (λ x. x.name) p.transitions number t (and_parts _ (are_distinct (map (λ x. x.name) p.transitions)) p.distinct).1 is few

  pub transition_word : (number : ℕ) (t : Transition) → slice_get p.transitions number ≡ Some t → AreWordBytes t.name × (0 < length t.name)
  transition_word number t is =
      let fit = all_at (transition_fits (signature_of p)) p.transitions number t (from_all (transition_fits (signature_of p)) p.transitions p.transitions_fit) is in
      name_is_word t.name (and_parts (is_declarable t.name) _ (and_parts _ _ (and_parts _ _ (and_parts _ _ (and_parts _ _ fit).0).0).0).0).0

  pub few_transitions : (length p.transitions ≤ 256) × (length p.goals ≤ 4096)
  few_transitions =
      let last = and_parts _ (nat_le (length p.transitions) 256) p.few in
      (leb-true (length p.transitions) 256 last.1, leb-true (length p.goals) 4096 (and_parts _ (nat_le (length p.goals) 4096) last.0).1)

  module _ (n : ℕ) (few : n ≤ 128) where
    fire_is_told : (number : ℕ) (params : List ℕ) (picks : List Chosen) (t : Transition) → slice_get p.transitions number ≡ Some t → length params ≡ t.params
        → AreSmall params → AreWritten p n picks → event_told p (event_text p (Fire number params picks)) ≡ Some (Fire number params picks)
    fire_is_told number params picks t is len small w =
        let inside = within_list p.transitions number t is in
        let name : transition_name p number ≡ t.name = ap (λ o. option_map_or (λ x. x.name) o []) is in
        let tail = processes_text params ++ picks_text p picks in
        let opened : event_text p (Fire number params picks) ≡ codes "step " ++ (t.name ++ tail) =
        append_assoc (codes "step " ++ transition_name p number) (processes_text params) (picks_text p picks)
        ∙ append_assoc (codes "step ") (transition_name p number) tail ∙ ap (λ x. codes "step " ++ (x ++ tail)) name in
        let words = transition_word number t is in
        let here : word (behind (codes "step " ++ (t.name ++ tail))) ≡ t.name = first_word t.name tail words.0 words.1 refl in
        let next : behind (behind (codes "step " ++ (t.name ++ tail))) ≡ tail = behind_first t.name tail words.0 words.1 refl in
        let found : number_of (λ x. x.name) p.transitions t.name ≡ number = transition_found number t is (omega (arith, inside, few_transitions.0)) in
        let told : processes_in t.params tail ≡ params = ap (λ m. processes_in m tail) (sym len) ∙ processes_read params (picks_text p picks) small in
        let left : behind (behind_words t.params tail) ≡ behind (picks_text p picks) =
        ap (λ m. behind (behind_words m tail)) (sym len) ∙ ap back (behind_processes params (picks_text p picks) small) in
        let enough : length picks ≤ length tail = omega (arith, picks_len p picks, length-append (processes_text params) (picks_text p picks)) in
        let picked : picks_told p (length tail) (behind (behind_words t.params tail)) ≡ picks =
        ap (picks_told p (length tail)) left ∙ picks_of_line p n (length tail) picks enough w in
        ap (event_told p) opened
        ∙ ap (λ x. firing_told p (number_of (λ y. y.name) p.transitions x) (slice_get p.transitions (number_of (λ y. y.name) p.transitions x)) (behind (behind (codes "step " ++ (t.name ++ tail))))) here
        ∙ ap (λ x. firing_told p x (slice_get p.transitions x) (behind (behind (codes "step " ++ (t.name ++ tail))))) found
        ∙ ap (λ o. firing_told p number o (behind (behind (codes "step " ++ (t.name ++ tail))))) is
        ∙ ap (firing_told p number (Some t)) next
        ∙ ap (λ x. Some (Fire number x (picks_told p (length tail) (behind (behind_words t.params tail))))) told
        ∙ ap (λ x. Some (Fire number params x)) picked

    -- an event
    pub event_is_told : (e : Event) → is_lawful_event p n e ≡ true → event_told p (event_text p e) ≡ Some e
    event_is_told (Crash i) h =
        let inside = ltb-true i n (and_parts (nat_lt i n) true h).0 in
        ap (λ j. Some (Crash j)) (last_process i (omega arith))
    event_is_told (Fire number params picks) h =
        let parts = and_parts (fits_event p n (Fire number params picks)) (picks_are_lawful (has_any p) (Fire number params picks)) h in
        by (slice_get p.transitions number) refl parts.0 (and_parts (has_any p || is_empty picks) (list_all (λ c. nat_le (size_of c.val) greatest_start) picks) parts.1).1
      where
        by : (o : Option Transition) → slice_get p.transitions number ≡ o → fits_transition p n o params picks ≡ true → list_all (λ c. nat_le (size_of c.val) greatest_start) picks ≡ true
            → event_told p (event_text p (Fire number params picks)) ≡ Some (Fire number params picks)
        by None is fit small = absurd (let e : false ≡ true = fit in cc)
        by (Some t) is fit small =
            let last = and_parts _ (list_all (λ c. slot_takes p n c.slot c.val) picks) fit in
            let rise = and_parts _ (picks_rise picks) last.0 in
            let firsts = and_parts (length params == t.params) (list_all (λ i. nat_lt i n) params) rise.0 in
            fire_is_told number params picks t is (eqb-true (length params) t.params firsts.0) (are_small n few params firsts.1)
            (are_written p n few picks last.1 small)

    -- an unsafe conjunction
    processes_blank : (m : ℕ) (t : List ℕ) → processes_in m (32 ∷ t) ≡ processes_in m t
    processes_blank zero t = refl
    processes_blank (suc m) t = refl

    pub goal_is_told : (goal : ℕ) (places : List ℕ) → is_lawful_goal p n goal places ≡ true
        → (goal_told (goal_text goal places) ≡ goal) × (goal_places p (goal_text goal places) ≡ places)
    goal_is_told goal places h =
        let parts = and_parts (has_places (slice_get p.goals goal) places) (list_all (λ i. nat_lt i n) places) h in
        by (slice_get p.goals goal) refl parts.0 (are_small n few places parts.1)
      where
        by : (o : Option Goal) → slice_get p.goals goal ≡ o → has_places o places ≡ true → AreSmall places
            → (goal_told (goal_text goal places) ≡ goal) × (goal_places p (goal_text goal places) ≡ places)
        by None is has small = absurd (let e : false ≡ true = has in cc)
        by (Some g) is has small =
            let inside = within_list p.goals goal g is in
            let fits : goal + 1 < 2 ^ 64 = omega (arith, inside, few_transitions.1) in
            let tail = 32 ∷ processes_text places in
            let opened : goal_text goal places ≡ codes "unsafe " ++ (decimal (goal + 1) ++ tail) =
            append_assoc (codes "unsafe " ++ decimal (goal + 1)) (codes " ") (processes_text places)
            ∙ append_assoc (codes "unsafe ") (decimal (goal + 1)) tail in
            let words = decimal_words (goal + 1) fits in
            let some = decimal_some (goal + 1) fits in
            let number : goal_told (goal_text goal places) ≡ goal =
            ap goal_told opened ∙ ap counted (first_word (decimal (goal + 1)) tail words some refl)
            ∙ counted_written goal (omega (arith, inside, few_transitions.1)) in
            let next : behind (behind (goal_text goal places)) ≡ tail =
            ap (λ t. behind (behind t)) opened ∙ behind_first (decimal (goal + 1)) tail words some refl in
            let len : length places ≡ g.width = eqb-true (length places) g.width has in (
              number,
              ap (λ m. places_told (slice_get p.goals m) (behind (behind (goal_text goal places)))) number
                  ∙ ap (λ o. places_told o (behind (behind (goal_text goal places)))) is
                  ∙ ap (processes_in g.width) next ∙ processes_blank g.width (processes_text places)
                  ∙ ap (λ m. processes_in m (processes_text places)) (sym len)
                  ∙ ap (processes_in (length places)) (sym (append-nil (processes_text places))) ∙ processes_read places [] small,
            )

abbrev plain_at : ℕ → ℕ → Plain
plain_at s i = record { step = s; process = i }

-- where the steps alone fail
pub plain_is_told : (at : Plain) → at.step ≤ 4294967295 → at.process ≤ 4294967295 → plain_told (plain_text at) ≡ at
plain_is_told at few small =
    let fits : at.step + 1 < 2 ^ 64 = omega arith in
    let tail = 32 ∷ process_text at.process in
    let opened : plain_text at ≡ codes "plain " ++ (decimal (at.step + 1) ++ tail) =
    append_assoc (codes "plain " ++ decimal (at.step + 1)) (codes " ") (process_text at.process)
    ∙ append_assoc (codes "plain ") (decimal (at.step + 1)) tail in
    let words = decimal_words (at.step + 1) fits in
    let some = decimal_some (at.step + 1) fits in
    let step : counted (word (behind (plain_text at))) ≡ at.step =
    ap (λ t. counted (word (behind t))) opened ∙ ap counted (first_word (decimal (at.step + 1)) tail words some refl) ∙ counted_written at.step few in
    let process : counted (word (behind (behind (plain_text at)))) ≡ at.process =
    ap (λ t. counted (word (behind (behind t)))) opened ∙ ap (λ t. counted (word t)) (behind_first (decimal (at.step + 1)) tail words some refl)
    ∙ last_process at.process small in
    ap (λ s. plain_at s (counted (word (behind (behind (plain_text at)))))) step ∙ ap (plain_at at.step) process
