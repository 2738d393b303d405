-- An event has no fault exactly where it is legal.
use Rattle.std.proofs.Common.{◌≡◌, ◌≢◌, ℕ, ◌<◌, Bool, true, false, cond, not, ◌&&◌, ◌==◌, nat_lt, List, [], ◌∷◌, ◌++◌, Option, Some, None, length, get_or, find, refl, sym, ap, subst, ◌∙◌, arith, All, AllPairs, Contains, IsTrue, append_assoc, slice_get}
use Rattle.std.specs.Option.{option_or, option_map}
use Rattle.std.specs.List.{list_all, range_with_len}
use Rattle.std.proofs.lemmas.Bool.{and_parts, and_from, eqb-true, eq-eqb, ltb-true, ne_eqb, not-false, not_from_true, both_ways}
use Rattle.std.proofs.lemmas.List.{append-nil, get_or_default, get_or_append_left, get_or_at, length-append}
use Rattle.std.proofs.lemmas.List.FromFn.{length-range_with_len, get_or-range_with_len}
use Rattle.std.proofs.lemmas.List.Elements.{All-weaker, All-cons, All-nil}
use Rattle.std.proofs.lemmas.List.Folds.{list_any_at, list_any_none}
use Rattle.std.proofs.lemmas.List.Quantifiers.{all_pairs_push}
use Rattle.cub_proto.specs.declared.literal.Sort.{Sort}
use Rattle.cub_proto.specs.declared.literal.Lit.{Lit}
use Rattle.cub_proto.specs.declared.literal.Value.{Value}
use Rattle.cub_proto.specs.declared.transition.Target.{Target}
use Rattle.cub_proto.specs.declared.transition.Update.{Update}
use Rattle.cub_proto.specs.declared.transition.Transition.{Transition}
use Rattle.cub_proto.specs.declared.state.Slot.{Slot}
use Rattle.cub_proto.specs.declared.state.Val.{Val}
use Rattle.cub_proto.specs.declared.state.Val.TheVariants.{Con, Proc, Int}
use Rattle.cub_proto.specs.declared.event.Chosen.{Chosen}
use Rattle.cub_proto.specs.declared.event.Event.{Event}
use Rattle.cub_proto.specs.declared.event.Event.TheVariants.{Crash, Fire}
use Rattle.cub_proto.specs.declared.protocol.Protocol.{Protocol}
use Rattle.cub_proto.specs.Configuration.{Configuration, process_count, is_alive, IsAlive}
use Rattle.cub_proto.specs.Signature.{Signature, declared_sort, constructors_of}
use Rattle.cub_proto.specs.StateOf.{IsOfSort, signature_of}
use Rattle.cub_proto.specs.Fits.{is_any}
use Rattle.cub_proto.specs.Truth.{any_true}
use Rattle.cub_proto.specs.Effect.{update_of, counting, same_slot, picked}
use Rattle.cub_proto.specs.Legal.{TakesPick, MayPick, MayFire, IsLegal, slot_before, picks_rise}
use Rattle.replay.specs.declared.fault.StepFault.TheVariants.{Dead, Equal, Guard, Other, Pick}
use Rattle.replay.specs.FitsEvent.{is_of_sort, is_declared, slot_takes, fits_transition, FitsEvent}
use Rattle.replay.specs.Fault.{is_among, first_dead, first_repeat_after, first_repeat, is_blocking, first_blocking, is_free, is_free_slot, is_no_dead, is_allowed, first_refused, guard_fault, crash_fault, firing_fault, fault_of, fault_at}
use Rattle.cub_base.proofs.Elements.{all_from}
use Rattle.cub_base.proofs.Searches.{found_fits, none_found, find_none}
use Rattle.cub_proto.proofs.StateValues.{alive_within}
use Rattle.cub_proto.proofs.Slots.{slot_before_differs, slot_same, slot_is}

-- what an event that fits has
pub record FitsParts (p : Protocol) (n : ℕ) (o : Option Transition) (params : List ℕ) (picks : List Chosen) : Type 0 where
  pub transition : Transition
  pub is_there : o ≡ Some transition
  pub one_each : length params ≡ transition.params
  pub inside : All (λ i. i < n) params
  pub rising : picks_rise picks ≡ true
  pub slots : All (λ c. slot_takes p n c.slot c.val ≡ true) picks

pub fits_parts : (p : Protocol) (n : ℕ) (o : Option Transition) (params : List ℕ) (picks : List Chosen) → fits_transition p n o params picks ≡ true → FitsParts p n o params picks
fits_parts p n None params picks h = absurd (let e : false ≡ true = h in cc)
fits_parts p n (Some t) params picks h =
    let number = length params == t.params in
    let processes = list_all (λ i. nat_lt i n) params in
    let slots = list_all (λ c. slot_takes p n c.slot c.val) picks in
    let a = and_parts (number && processes && picks_rise picks) slots h in
    let b = and_parts (number && processes) (picks_rise picks) a.0 in
    let c = and_parts number processes b.0 in
    record {
      transition = t;
      is_there = refl;
      one_each = eqb-true (length params) t.params c.0;
      inside = All-weaker (λ i. nat_lt i n ≡ true) (λ i. i < n) (λ i l. ltb-true i n l) params (all_from (λ i. nat_lt i n) params c.1);
      rising = b.1;
      slots = all_from (λ d. slot_takes p n d.slot d.val) picks a.1;
    }

-- the first of two is none exactly where both are
or_none_parts : {X : Type 0} (a b : Option X) → option_or a b ≡ None → (a ≡ None) × (b ≡ None)
or_none_parts None b h = (refl, h)
or_none_parts {X} (Some x) b h = absurd (let e : Some x ≡ None = h in cc)

map_none : {X Y : Type 0} (f : X → Y) (o : Option X) → option_map f o ≡ None → o ≡ None
map_none f None h = refl
map_none {X} {Y} f (Some x) h = absurd (let e : Some (f x) ≡ None = h in cc)

guard_none : (b : Bool) → guard_fault b ≡ None → b ≡ true
guard_none true h = refl
guard_none false h = absurd (let e : Some Guard ≡ None = h in cc)

-- the parameters are alive
pub all_alive : (s : Configuration) (processes : List ℕ) → first_dead s processes ≡ None → All (IsAlive s) processes
all_alive s processes h =
    All-weaker (λ i. not (is_alive s i) ≡ false) (IsAlive s) (λ i e. not-false (is_alive s i) e) processes
    (none_found (λ i. not (is_alive s i)) processes h)

pub none_dead : (s : Configuration) (processes : List ℕ) → All (IsAlive s) processes → first_dead s processes ≡ None
none_dead s processes h =
    find_none (λ i. not (is_alive s i)) processes
    (All-weaker (IsAlive s) (λ i. not (is_alive s i) ≡ false) (λ i e. not_from_true (is_alive s i) e) processes h)

-- the process is no element
among_differs : (processes : List ℕ) (i : ℕ) → is_among processes i ≡ false → (k d : ℕ) → k < length processes → get_or processes k d ≢ i
among_differs processes i h k d within same =
    both_ways (is_among processes i) h (list_any_at (λ j. j == i) processes k d within (eq-eqb (get_or processes k d) i same))

not_among : (processes : List ℕ) (i : ℕ) → ((k d : ℕ) → k < length processes → get_or processes k d ≢ i) → is_among processes i ≡ false
not_among processes i h =
    list_any_none (λ j. j == i) processes (λ k d within. ne_eqb (get_or processes k d) i (h k d within))

repeat_distinct : (earlier is : List ℕ) → AllPairs (λ i j. i ≢ j) earlier → first_repeat_after earlier is ≡ None → AllPairs (λ i j. i ≢ j) (earlier ++ is)
repeat_distinct earlier [] distinct h = subst (AllPairs (λ i j. i ≢ j)) (sym (append-nil earlier)) distinct
repeat_distinct earlier (i ∷ is) distinct h =
    (elim (is_among earlier i) as (λ t. is_among earlier i ≡ t → cond t (Some i) (first_repeat_after (earlier ++ i ∷ []) is) ≡ None → AllPairs (λ a b. a ≢ b) (earlier ++ i ∷ is)) [
      | true ↦ λ e none. absurd (let f : Some i ≡ None = none in cc)
      | false ↦ λ e none. subst (AllPairs (λ a b. a ≢ b)) (append_assoc earlier (i ∷ []) is)
          (repeat_distinct (earlier ++ i ∷ []) is (all_pairs_push (λ a b. a ≢ b) earlier i distinct (among_differs earlier i e)) none)
    ]) refl h

distinct_repeat : (earlier is : List ℕ) → AllPairs (λ i j. i ≢ j) (earlier ++ is) → first_repeat_after earlier is ≡ None
distinct_repeat earlier [] distinct = refl
distinct_repeat earlier (i ∷ is) distinct =
    let whole = length-append earlier (i ∷ is) in
    let apart : (k d : ℕ) → k < length earlier → get_or earlier k d ≢ i = λ k d within same.
    distinct k (length earlier) d within (omega arith)
    (get_or_append_left earlier (i ∷ is) d k within ∙ same ∙ sym (get_or_at earlier i is d (length earlier) refl)) in
    ap (λ t. cond t (Some i) (first_repeat_after (earlier ++ i ∷ []) is)) (not_among earlier i apart)
    ∙ distinct_repeat (earlier ++ i ∷ []) is (subst (AllPairs (λ a b. a ≢ b)) (sym (append_assoc earlier (i ∷ []) is)) distinct)

pub all_distinct : (processes : List ℕ) → first_repeat processes ≡ None → AllPairs (λ i j. i ≢ j) processes
all_distinct processes h = repeat_distinct [] processes (λ i j d less within. absurd (omega arith)) h

pub none_repeats : (processes : List ℕ) → AllPairs (λ i j. i ≢ j) processes → first_repeat processes ≡ None
none_repeats processes h = distinct_repeat [] processes h

-- a search of the processes
pub range_none : (test : ℕ → Bool) (n : ℕ) → find test (range_with_len 0 n) ≡ None → (i : ℕ) → i < n → test i ≡ false
range_none test n h i within =
    let each = none_found test (range_with_len 0 n) h i 0 (let l = length-range_with_len 0 n in omega arith) in
    let at : get_or (range_with_len 0 n) i 0 ≡ i = get_or-range_with_len 0 n i 0 within ∙ omega arith in
    ap test (sym at) ∙ each

pub none_range : (test : ℕ → Bool) (n : ℕ) → ((i : ℕ) → i < n → test i ≡ false) → find test (range_with_len 0 n) ≡ None
none_range test n h =
    find_none test (range_with_len 0 n)
    (λ k d within. let inside : k < n = (let l = length-range_with_len 0 n in omega arith) in
    let at : get_or (range_with_len 0 n) k d ≡ k = get_or-range_with_len 0 n k d inside ∙ omega arith in
    ap test at ∙ h k inside)

not_contained : (params : List ℕ) (i : ℕ) → (Contains params i → ⊥) → is_among params i ≡ false
not_contained params i absent =
    not_among params i (λ k d within same. absent (k, within, get_or_default params k i d within ∙ same))

contained_not : (params : List ℕ) (i : ℕ) → is_among params i ≡ false → Contains params i → ⊥
contained_not params i h has = among_differs params i h has.0 i has.1 has.2

-- every other alive process has a true alternative
pub others_true : (s : Configuration) (others : List (List Lit)) (params : List ℕ) → first_blocking s others params ≡ None → (i : ℕ) → IsAlive s i → (Contains params i → ⊥) → IsTrue (any_true s (params ++ i ∷ []) others)
others_true s others params h i alive absent =
    let free = range_none (is_blocking s others params) (process_count s) h i (alive_within s i alive) in
    let among = not_contained params i absent in
    let here : not (any_true s (params ++ i ∷ []) others) ≡ false =
    sym (ap (λ t. t && not (is_among params i) && not (any_true s (params ++ i ∷ []) others)) alive
    ∙ ap (λ t. not t && not (any_true s (params ++ i ∷ []) others)) among) ∙ free in
    not-false (any_true s (params ++ i ∷ []) others) here

blocks_not : (s : Configuration) (others : List (List Lit)) (params : List ℕ) → ((i : ℕ) → IsAlive s i → (Contains params i → ⊥) → IsTrue (any_true s (params ++ i ∷ []) others)) → (i : ℕ) (alive among : Bool) → is_alive s i ≡ alive → is_among params i ≡ among → (alive && not among && not (any_true s (params ++ i ∷ []) others)) ≡ false
blocks_not s others params h i true false is none =
    not_from_true (any_true s (params ++ i ∷ []) others) (h i is (contained_not params i none))
blocks_not s others params h i true true is none = refl
blocks_not s others params h i false false is none = refl
blocks_not s others params h i false true is none = refl

pub none_blocks : (s : Configuration) (others : List (List Lit)) (params : List ℕ) → ((i : ℕ) → IsAlive s i → (Contains params i → ⊥) → IsTrue (any_true s (params ++ i ∷ []) others)) → first_blocking s others params ≡ None
none_blocks s others params h =
    none_range (is_blocking s others params) (process_count s)
    (λ i within. blocks_not s others params h i (is_alive s i) (is_among params i) refl refl)

any_is : (w : Value) → is_any w ≡ true → w ≡ Value.Any
any_is (Value.Con c) h = absurd (let e : false ≡ true = h in cc)
any_is (Value.Read t) h = absurd (let e : false ≡ true = h in cc)
any_is (Value.Proc side) h = absurd (let e : false ≡ true = h in cc)
any_is (Value.Sum base add) h = absurd (let e : false ≡ true = h in cc)
any_is Value.Any h = refl

-- the test of sorts says what it is named for
pub of_sort : (sig : Signature) (n : ℕ) (sort : Sort) (v : Val) → is_of_sort sig n sort v ≡ true → IsOfSort sig n sort v
of_sort sig n (Sort.Fin k) (Con c) h = ltb-true c (constructors_of sig (Sort.Fin k)) h
of_sort sig n (Sort.Fin k) (Proc i) h = absurd (let e : false ≡ true = h in cc)
of_sort sig n (Sort.Fin k) (Int m) h = absurd (let e : false ≡ true = h in cc)
of_sort sig n Sort.Proc (Con c) h = absurd (let e : false ≡ true = h in cc)
of_sort sig n Sort.Proc (Proc i) h = ltb-true i n h
of_sort sig n Sort.Proc (Int m) h = absurd (let e : false ≡ true = h in cc)
of_sort sig n Sort.Int (Con c) h = absurd (let e : false ≡ true = h in cc)
of_sort sig n Sort.Int (Proc i) h = absurd (let e : false ≡ true = h in cc)
of_sort sig n Sort.Int (Int m) h = tt

no_dead : (s : Configuration) (v : Val) → is_no_dead s v ≡ true → (i : ℕ) → v ≡ Proc i → IsAlive s i
no_dead s (Con c) h i is = absurd (let e : Con c ≡ Proc i = is in cc)
no_dead s (Proc j) h i is = (let same : j ≡ i = cc in ap (is_alive s) (sym same) ∙ h)
no_dead s (Int m) h i is = absurd (let e : Int m ≡ Proc i = is in cc)

dead_no : (s : Configuration) (v : Val) → ((i : ℕ) → v ≡ Proc i → IsAlive s i) → is_no_dead s v ≡ true
dead_no s (Con c) h = refl
dead_no s (Proc i) h = h i refl
dead_no s (Int m) h = refl

takes_pick : (p : Protocol) (s : Configuration) (places : List ℕ) (o : Option Update) (sort : Option Sort) (v : Val) → is_free s places o ≡ true → is_declared (signature_of p) (process_count s) sort v ≡ true → is_no_dead s v ≡ true → TakesPick p s places o sort v
takes_pick p s places None sort v free declared alive = absurd (let e : false ≡ true = free in cc)
takes_pick p s places (Some u) None v free declared alive = absurd (let e : false ≡ true = declared in cc)
takes_pick p s places (Some u) (Some sort) v free declared alive = record {
  its_update = u;
  is_update = refl;
  free = any_is (counting s places u) free;
  its_sort = sort;
  is_sort = refl;
  pickable = record { of_sort = of_sort (signature_of p) (process_count s) sort v declared; alive = no_dead s v alive };
}

takes_free : (p : Protocol) (s : Configuration) (places : List ℕ) (o : Option Update) (sort : Option Sort) (v : Val) → TakesPick p s places o sort v → (is_free s places o ≡ true) × (is_no_dead s v ≡ true)
takes_free p s places o sort v takes =
    (ap (is_free s places) takes.is_update ∙ ap is_any takes.free, dead_no s v takes.pickable.alive)

-- an allowed pick of a slot and value that fit may be made
pub may_pick : (p : Protocol) (s : Configuration) (us : List Update) (params : List ℕ) (slot : Slot) (v : Val) → slot_takes p (process_count s) slot v ≡ true → is_free_slot s us params slot ≡ true → is_no_dead s v ≡ true → MayPick p s us params slot v
may_pick p s us params (Slot.Global g) v fits free alive =
    takes_pick p s params (update_of us (Target.Global g)) (declared_sort p.globals g) v free fits alive
may_pick p s us params (Slot.Cell a i) v fits free alive =
    let parts = and_parts (is_alive s i) (is_free s (params ++ i ∷ []) (update_of us (Target.Array a))) free in
    let declared = and_parts (nat_lt i (process_count s)) (is_declared (signature_of p) (process_count s) (declared_sort p.arrays a) v) fits in
    (parts.0, takes_pick p s (params ++ i ∷ []) (update_of us (Target.Array a)) (declared_sort p.arrays a) v parts.1 declared.1 alive)

pub pick_may : (p : Protocol) (s : Configuration) (us : List Update) (params : List ℕ) (slot : Slot) (v : Val) → MayPick p s us params slot v → (is_free_slot s us params slot ≡ true) × (is_no_dead s v ≡ true)
pick_may p s us params (Slot.Global g) v may =
    takes_free p s params (update_of us (Target.Global g)) (declared_sort p.globals g) v may
pick_may p s us params (Slot.Cell a i) v may =
    let takes = takes_free p s (params ++ i ∷ []) (update_of us (Target.Array a)) (declared_sort p.arrays a) v may.1 in
    (and_from (is_alive s i) (is_free s (params ++ i ∷ []) (update_of us (Target.Array a))) may.0 takes.0, takes.1)

-- what is picked for a slot stands in the list
pub picked_from : (P : Chosen → Type 0) (picks : List Chosen) (slot : Slot) (v : Val) → All P picks → picked picks slot ≡ Some v → (c : Chosen) × P c × (c.slot ≡ slot) × (c.val ≡ v)
picked_from P picks slot v each h =
    from (find (λ c. same_slot c.slot slot) picks) refl h
  where
    from : (o : Option Chosen) → find (λ c. same_slot c.slot slot) picks ≡ o → option_map (λ c. c.val) o ≡ Some v → (c : Chosen) × P c × (c.slot ≡ slot) × (c.val ≡ v)
    from None e f = absurd (let g : None ≡ Some v = f in cc)
    from (Some c) e f =
        let found = found_fits P (λ d. same_slot d.slot slot) picks c each e in
        let value : c.val ≡ v = (let g : Some c.val ≡ Some v = f in cc) in
        (c, found.0, slot_is c.slot slot found.1, value)

-- where picks rise, each is what is picked for its slot
pub picked_own : (picks : List Chosen) → picks_rise picks ≡ true → All (λ c. picked picks c.slot ≡ Some c.val) picks
picked_own [] rise = All-nil (λ c. picked [] c.slot ≡ Some c.val)
picked_own (c ∷ cs) rise =
    let parts = and_parts (list_all (λ d. slot_before c.slot d.slot) cs) (picks_rise cs) rise in
    let before = all_from (λ d. slot_before c.slot d.slot) cs parts.0 in
    let own = picked_own cs parts.1 in
    All-cons (λ d. picked (c ∷ cs) d.slot ≡ Some d.val) c cs
    (ap (λ t. option_map (λ d. d.val) (cond t (Some c) (find (λ d. same_slot d.slot c.slot) cs))) (slot_same c.slot))
    (λ k d within. ap (λ t. option_map (λ e. e.val) (cond t (Some c) (find (λ e. same_slot e.slot (get_or cs k d).slot) cs)))
    (slot_before_differs c.slot (get_or cs k d).slot (before k d within)) ∙ own k d within)

module _ (p : Protocol) (s : Configuration) (t : Transition) (params : List ℕ) (picks : List Chosen) where
  all_allowed : first_refused s t.updates params picks ≡ None → All (λ c. is_allowed s t.updates params c ≡ true) picks
  all_allowed h =
      All-weaker (λ c. not (is_allowed s t.updates params c) ≡ false) (λ c. is_allowed s t.updates params c ≡ true)
      (λ c e. not-false (is_allowed s t.updates params c) e) picks (none_found (λ c. not (is_allowed s t.updates params c)) picks h)

  -- no fault: the parts
  pub record NoFault : Type 0 where
    pub alive : first_dead s params ≡ None
    pub distinct : first_repeat params ≡ None
    pub guard : any_true s params t.guard ≡ true
    pub others : first_blocking s t.others params ≡ None
    pub allowed : All (λ c. is_allowed s t.updates params c ≡ true) picks

  pub no_fault : firing_fault s t params picks ≡ None → NoFault
  no_fault h =
      let refused = option_map (λ c. Pick c.slot) (first_refused s t.updates params picks) in
      let other = option_map (λ i. Other i) (first_blocking s t.others params) in
      let guard = guard_fault (any_true s params t.guard) in
      let equal = option_map (λ i. Equal i) (first_repeat params) in
      let dead = option_map (λ i. Dead i) (first_dead s params) in
      let a = or_none_parts dead (option_or equal (option_or guard (option_or other refused))) h in
      let b = or_none_parts equal (option_or guard (option_or other refused)) a.1 in
      let c = or_none_parts guard (option_or other refused) b.1 in
      let d = or_none_parts other refused c.1 in
      record {
        alive = map_none (λ i. Dead i) (first_dead s params) a.0;
        distinct = map_none (λ i. Equal i) (first_repeat params) b.0;
        guard = guard_none (any_true s params t.guard) c.0;
        others = map_none (λ i. Other i) (first_blocking s t.others params) d.0;
        allowed = all_allowed (map_none (λ c. Pick c.slot) (first_refused s t.updates params picks) d.1);
      }

  pub fires : length params ≡ t.params → All (λ c. slot_takes p (process_count s) c.slot c.val ≡ true) picks → firing_fault s t params picks ≡ None → MayFire p s t params (picked picks)
  fires one_each slots h =
      let none = no_fault h in
      let both : All (λ c. (slot_takes p (process_count s) c.slot c.val ≡ true) × (is_allowed s t.updates params c ≡ true)) picks = λ k d within. (slots k d within, none.allowed k d within) in
      record {
        one_each = one_each;
        parameters = record { alive = all_alive s params none.alive; distinct = all_distinct params none.distinct };
        guard = none.guard;
        others = others_true s t.others params none.others;
        picks = λ slot v is.
            (let from = picked_from (λ c. (slot_takes p (process_count s) c.slot c.val ≡ true) × (is_allowed s t.updates params c ≡ true)) picks slot v both is in
            let parts = and_parts (is_free_slot s t.updates params (from.0).slot) (is_no_dead s (from.0).val) from.1.1 in
            subst (λ w. MayPick p s t.updates params w v) from.2
            (subst (λ w. MayPick p s t.updates params (from.0).slot w) from.3
            (may_pick p s t.updates params (from.0).slot (from.0).val from.1.0 parts.0 parts.1)));
      }

  pub fires_not : picks_rise picks ≡ true → MayFire p s t params (picked picks) → firing_fault s t params picks ≡ None
  fires_not rise may =
      let own = picked_own picks rise in
      let allowed : All (λ c. is_allowed s t.updates params c ≡ true) picks = λ k d within.
      (let c = get_or picks k d in
      let parts = pick_may p s t.updates params c.slot c.val (may.picks c.slot c.val (own k d within)) in
      and_from (is_free_slot s t.updates params c.slot) (is_no_dead s c.val) parts.0 parts.1) in
      let refused : first_refused s t.updates params picks ≡ None =
      find_none (λ c. not (is_allowed s t.updates params c)) picks
      (All-weaker (λ c. is_allowed s t.updates params c ≡ true) (λ c. not (is_allowed s t.updates params c) ≡ false)
      (λ c e. not_from_true (is_allowed s t.updates params c) e) picks allowed) in
      ap (λ o. option_or (option_map (λ i. Dead i) o) (option_or (option_map (λ i. Equal i) (first_repeat params))
      (option_or (guard_fault (any_true s params t.guard)) (option_or (option_map (λ i. Other i) (first_blocking s t.others params))
      (option_map (λ c. Pick c.slot) (first_refused s t.updates params picks)))))) (none_dead s params may.parameters.alive)
      ∙ ap (λ o. option_or (option_map (λ i. Equal i) o)
      (option_or (guard_fault (any_true s params t.guard)) (option_or (option_map (λ i. Other i) (first_blocking s t.others params))
      (option_map (λ c. Pick c.slot) (first_refused s t.updates params picks))))) (none_repeats params may.parameters.distinct)
      ∙ ap (λ b. option_or (guard_fault b) (option_or (option_map (λ i. Other i) (first_blocking s t.others params))
      (option_map (λ c. Pick c.slot) (first_refused s t.updates params picks)))) may.guard
      ∙ ap (λ o. option_or (option_map (λ i. Other i) o)
      (option_map (λ c. Pick c.slot) (first_refused s t.updates params picks))) (none_blocks s t.others params may.others)
      ∙ ap (option_map (λ c. Pick c.slot)) refused

crash_none : (i : ℕ) (b : Bool) → crash_fault i b ≡ None → b ≡ true
crash_none i true h = refl
crash_none i false h = absurd (let e : Some (Dead i) ≡ None = h in cc)

-- an event without fault is legal
pub legal_without_fault : (p : Protocol) (s : Configuration) (e : Event) → FitsEvent p (process_count s) e → fault_at p s e ≡ None → IsLegal p s e
legal_without_fault p s (Crash i) fits h = crash_none i (is_alive s i) h
legal_without_fault p s (Fire number params picks) fits h =
    let parts = fits_parts p (process_count s) (slice_get p.transitions number) params picks fits in
    let t = parts.transition in
    record {
      transition = t;
      is_there = parts.is_there;
      fires = fires p s t params picks parts.one_each parts.slots (ap (λ o. fault_of o s params picks) (sym parts.is_there) ∙ h);
      rising = parts.rising;
    }

-- a legal event has no fault
pub no_fault_where_legal : (p : Protocol) (s : Configuration) (e : Event) → IsLegal p s e → fault_at p s e ≡ None
no_fault_where_legal p s (Crash i) legal = ap (crash_fault i) legal
no_fault_where_legal p s (Fire number params picks) legal =
    ap (λ o. fault_of o s params picks) legal.is_there
    ∙ fires_not p s legal.transition params picks legal.rising legal.fires
