-- The step that a label names, from a state whose processes satisfy the piece: once the processes at which its universal
-- guard is false have crashed, it is legal, and leads into the cube. Before that it has no other fault.
-- It is proved from the same step where all but the processes at the places have crashed: truth, values and picks are the
-- same there, and at the places nobody is blocked.
use Rattle.std.proofs.Common.{◌≡◌, ℕ, zero, suc, ◌+◌, ◌<◌, ◌≤◌, Bool, true, false, cond, not, ◌&&◌, ◌==◌, List, [], ◌∷◌, ◌++◌, get_or, find, filter, take, Option, Some, refl, sym, ap, ◌∙◌, subst, arith, inl, inr, All, Contains, slice_get}
use Rattle.std.specs.Prelude.{IsTrue, option_map}
use Rattle.std.specs.Option.{option_or}
use Rattle.std.specs.List.{list_all, range_with_len}
use Rattle.std.proofs.lemmas.Bool.{eq-eqb, ne_eqb, and_from}
use Rattle.std.proofs.lemmas.List.{get_or_default}
use Rattle.std.proofs.lemmas.List.Elements.{All-weaker}
use Rattle.std.proofs.lemmas.List.Folds.{list_any_at, list_any_none}
use Rattle.cub_base.proofs.Bools.{and_left, and_right}
use Rattle.cub_base.proofs.Elements.{all_from}
use Rattle.cub_base.proofs.Members.{Has, Distinct, all_has, has_range}
use Rattle.cub_proto.specs.declared.literal.Sort.{Sort}
use Rattle.cub_proto.specs.declared.literal.Lit.{Lit}
use Rattle.cub_proto.specs.declared.transition.Update.{Update}
use Rattle.cub_proto.specs.declared.transition.Transition.{Transition}
use Rattle.cub_proto.specs.declared.state.Slot.{Slot}
use Rattle.cub_proto.specs.declared.state.Val.{Val}
use Rattle.cub_proto.specs.declared.event.Chosen.{Chosen}
use Rattle.cub_proto.specs.declared.event.Event.{Event}
use Rattle.cub_proto.specs.declared.event.Event.TheVariants.{Fire}
use Rattle.cub_proto.specs.declared.protocol.Protocol.{Protocol}
use Rattle.cub_proto.specs.Configuration.{Configuration, process_count, is_alive, IsAlive}
use Rattle.cub_proto.specs.StateOf.{IsStateOf, IsOfSort, signature_of}
use Rattle.cub_proto.specs.Fits.{literal_fits}
use Rattle.cub_proto.specs.Truth.{all_true, any_true, HasLiteral, HasLiterals}
use Rattle.cub_proto.specs.Effect.{counting, fired, picked}
use Rattle.cub_proto.specs.Legal.{AreDistinctAlive, TakesPick, MayPick, IsLegalFire, IsLegal, AreLegal, fired_by, after, after_all}
use Rattle.cub_proto.specs.Meets.{Satisfies}
use Rattle.cub_proto.proofs.StateValues.{alive_within}
use Rattle.cub_proto.proofs.Readable.{has_literal}
use Rattle.cub_cube.specs.declared.cube.Cube.{Cube}
use Rattle.cub_cube.specs.Rename.{along}
use Rattle.cub_cube.specs.Crashes.{crashes, killed_all, spare, IsCrashed}
use Rattle.cub_cube.proofs.CrashLemmas.{after_crashes, killed_all_crashed, spare_all}
use Rattle.cub_cube.proofs.States.{processes_within}
use Rattle.piece_choices.specs.declared.piece.Piece.{Piece}
use Rattle.piece_choices.specs.Pieces.{ArePieces}
use Rattle.piece_choices.specs.Placings as placings
use Rattle.piece_choices.proofs.ListLemmas.{filter_has, has_filter, among_has, has_among}
use Rattle.piece_laws.specs.Event.{picks_by, events_by}
use Rattle.piece_laws.proofs.LabelLemmas.{label_leads}
use Rattle.replay.specs.declared.fault.StepFault.TheVariants.{Dead, Equal, Other, Pick}
use Rattle.replay.specs.Fault.{is_among, first_repeat, is_blocking, first_blocking, first_refused, guard_fault, fault_of, fault_at}
use Rattle.replay.proofs.LegalFault.{none_dead, none_repeats}
use Rattle.trace_laws.specs.Blocked.{blocked_by, blocked, freed}
use Rattle.trace_laws.proofs.Living.{crashed_is, same_any, same_counting, same_after}
use Rattle.trace_laws.proofs.Killing.{left_alive, stays_alive, crashes_legal, after_append, legal_append, legal_back}

-- ---- lists
range_from : (from n i : ℕ) → Has (range_with_len from n) i → (from ≤ i) × (i < from + n)
range_from from zero i h = absurd h
range_from from (suc n) i (inl same) = (omega arith, omega arith)
range_from from (suc n) i (inr later) = let rest = range_from (from + 1) n i later in (omega (arith, rest.0), omega (arith, rest.1))

range_distinct : (from n : ℕ) → Distinct (range_with_len from n)
range_distinct from zero = tt
range_distinct from (suc n) = (λ h. let rest = range_from (from + 1) n from h in omega (arith, rest.0), range_distinct (from + 1) n)

filter_distinct : (test : ℕ → Bool) (xs : List ℕ) → Distinct xs → Distinct (filter test xs)
filter_distinct test [] h = tt
filter_distinct test (x ∷ xs) h = by (test x) (filter_distinct test xs h.1)
  where
    by : (b : Bool) → Distinct (filter test xs) → Distinct (cond b (x ∷ filter test xs) (filter test xs))
    by true rest = (λ later. h.0 (filter_has test xs x later).0, rest)
    by false rest = rest

first_found : (test : ℕ → Bool) (xs : List ℕ) → find test xs ≡ slice_get (filter test xs) 0
first_found test [] = refl
first_found test (x ∷ xs) = by (test x) (first_found test xs)
  where
    by : (b : Bool) → find test xs ≡ slice_get (filter test xs) 0 → cond b (Some x) (find test xs) ≡ slice_get (cond b (x ∷ filter test xs) (filter test xs)) 0
    by true rest = refl
    by false rest = rest

among_contains : (params : List ℕ) (i : ℕ) → is_among params i ≡ false → Contains params i → ⊥
among_contains params i none at =
    let some : is_among params i ≡ true = list_any_at (λ j. j == i) params at.0 i at.1 (eq-eqb (get_or params at.0 i) i at.2) in cc

-- ---- parts of a firing in a state with more alive processes
module _ (p : Protocol) (s bare mid : Configuration) (to_bare : IsCrashed s bare) (to_mid : IsCrashed s mid) (more : (i : ℕ) → IsAlive bare i → IsAlive mid i) where
  pub any_bare : (places : List ℕ) (conjs : List (List Lit)) → any_true bare places conjs ≡ any_true s places conjs
  any_bare places conjs = ap (λ z. any_true z places conjs) (crashed_is s bare to_bare) ∙ same_any s bare.living places conjs

  pub any_mid : (places : List ℕ) (conjs : List (List Lit)) → any_true mid places conjs ≡ any_true s places conjs
  any_mid places conjs = ap (λ z. any_true z places conjs) (crashed_is s mid to_mid) ∙ same_any s mid.living places conjs

  counts : (places : List ℕ) (u : Update) → counting mid places u ≡ counting bare places u
  counts places u =
      ap (λ z. counting z places u) (crashed_is s mid to_mid) ∙ same_counting s mid.living places u
      ∙ sym (ap (λ z. counting z places u) (crashed_is s bare to_bare) ∙ same_counting s bare.living places u)

  takes : (places : List ℕ) (update : Option Update) (sort : Option Sort) (v : Val) → TakesPick p bare places update sort v → TakesPick p mid places update sort v
  takes places update sort v h = record {
    its_update = h.its_update;
    is_update = h.is_update;
    free = counts places h.its_update ∙ h.free;
    its_sort = h.its_sort;
    is_sort = h.is_sort;
    pickable = record {
      of_sort = subst (λ n. IsOfSort (signature_of p) n h.its_sort v) (to_bare.count ∙ sym to_mid.count) h.pickable.of_sort;
      alive = λ i is. more i (h.pickable.alive i is);
    };
  }

  pub may_still : (updates : List Update) (params : List ℕ) (slot : Slot) (v : Val) → MayPick p bare updates params slot v → MayPick p mid updates params slot v
  may_still updates params (Slot.Global g) v h = takes _ _ _ v h
  may_still updates params (Slot.Cell a i) v h = (more i h.0, takes _ _ _ v h.1)

  pub distinct_still : (xs : List ℕ) → AreDistinctAlive bare xs → AreDistinctAlive mid xs
  distinct_still xs h = record { alive = All-weaker (IsAlive bare) (IsAlive mid) more xs h.alive; distinct = h.distinct }

-- what the step does
pub record StepFrees (p : Protocol) (c : Cube) (s : Configuration) (step : Event) (places : List ℕ) : Type 0 where
  pub legal : AreLegal p s (freed p s step)
  pub meets : Satisfies (after_all p s (freed p s step)) (take c.width places) c.width c.lits
  pub other : (i : ℕ) → slice_get (blocked p s step) 0 ≡ Some i → fault_at p s step ≡ Some (Other i)

module _ (p : Protocol) (c : Cube) (fits : IsTrue (list_all (literal_fits (signature_of p) c.width) c.lits)) (pieces : List Piece) (are : ArePieces p c pieces) (x : Piece) (at : Contains pieces x)
    (s : Configuration) (state : IsStateOf p s) (places : List ℕ) (sat : Satisfies s places x.cube.width x.cube.lits) where
  abbrev params : List ℕ
  params = along x.label.params places

  abbrev picks : List Chosen
  picks = picks_by s x.label.choices places

  abbrev step : Event
  step = Fire x.label.transition (along x.label.params places) (picks_by s x.label.choices places)

  abbrev dead : List ℕ
  dead = spare (placings.is_among places) s (process_count s)

  abbrev bare : Configuration
  bare = killed_all s (spare (placings.is_among places) s (process_count s))

  to_bare : IsCrashed s bare
  to_bare = killed_all_crashed s dead

  bare_legal : IsLegalFire p bare x.label.transition params picks
  bare_legal =
      let all = (label_leads p c pieces x s places fits are at state sat).legal in
      subst (λ z. IsLegal p z step) (after_crashes p s dead) (legal_back p s (crashes dead) (step ∷ []) all).0

  abbrev t : Transition
  t = bare_legal.transition

  abbrev list : List ℕ
  list = filter (is_blocking s bare_legal.transition.others params) (range_with_len 0 (process_count s))

  abbrev mid : Configuration
  mid = killed_all s list

  to_mid : IsCrashed s mid
  to_mid = killed_all_crashed s list

  is_list : blocked p s step ≡ list
  is_list = ap (λ o. blocked_by o s params) bare_legal.is_there

  -- at the places all stay alive
  at_place : (i : ℕ) → Has places i → IsAlive bare i
  at_place i h = (spare_all p (placings.is_among places) s (process_count s)).kept i (has_among places i h) (all_has (IsAlive s) places i sat.processes.alive h)

  alive_place : (i : ℕ) → IsAlive bare i → Has places i
  alive_place i h =
      let within : i < process_count s = subst (λ n. i < n) to_bare.count (alive_within bare i h) in
      among_has places i ((spare_all p (placings.is_among places) s (process_count s)).others i within h)

  blocks_parts : (i : ℕ) → Has list i → (is_among params i ≡ false) × (any_true s (params ++ i ∷ []) t.others ≡ false) × IsAlive s i
  blocks_parts i h =
      let blocks = (filter_has (is_blocking s t.others params) (range_with_len 0 (process_count s)) i h).1 in
      let front = and_left (is_alive s i && not (is_among params i)) (not (any_true s (params ++ i ∷ []) t.others)) blocks in
      let end = and_right (is_alive s i && not (is_among params i)) (not (any_true s (params ++ i ∷ []) t.others)) blocks in
      (off (is_among params i) (and_right (is_alive s i) (not (is_among params i)) front), off (any_true s (params ++ i ∷ []) t.others) end, and_left (is_alive s i) (not (is_among params i)) front)
    where
      off : (b : Bool) → IsTrue (not b) → b ≡ false
      off true k = cc
      off false k = refl

  free : (i : ℕ) → Has places i → Has list i → ⊥
  free i h l =
      let parts = blocks_parts i l in
      let holds : any_true bare (params ++ i ∷ []) t.others ≡ true = bare_legal.fires.others i (at_place i h) (among_contains params i parts.0) in
      let same = any_bare p s bare bare to_bare to_bare (λ j k. k) (params ++ i ∷ []) t.others in
      let no = parts.1 in
      cc

  bare_mid : (i : ℕ) → IsAlive bare i → IsAlive mid i
  bare_mid i h = stays_alive s list i (free i (alive_place i h)) (to_bare.alive i h)

  others_hold : (i : ℕ) → IsAlive mid i → (Contains params i → ⊥) → IsTrue (any_true mid (params ++ i ∷ []) t.others)
  others_hold i h absent = any_mid p s bare mid to_bare to_mid bare_mid (params ++ i ∷ []) t.others ∙ by (any_true s (params ++ i ∷ []) t.others) refl
    where
      by : (b : Bool) → any_true s (params ++ i ∷ []) t.others ≡ b → b ≡ true
      by true e = refl
      by false e =
          let left = left_alive s list i h in
          let among : is_among params i ≡ false =
          list_any_none (λ j. j == i) params (λ k d within. ne_eqb (get_or params k d) i (λ same. absent (k, within, get_or_default params k i d within ∙ same))) in
          let blocks : is_blocking s t.others params i ≡ true =
          and_from (is_alive s i && not (is_among params i)) (not (any_true s (params ++ i ∷ []) t.others)) (and_from (is_alive s i) (not (is_among params i)) left.0 (ap not among)) (ap not e) in
          absurd (left.1 (has_filter (is_blocking s t.others params) (range_with_len 0 (process_count s)) i (subst (Has (range_with_len 0 (process_count s))) (let e : 0 + i ≡ i = omega arith in e) (has_range 0 (process_count s) i (alive_within s i left.0))) blocks))

  mid_legal : IsLegalFire p mid x.label.transition params picks
  mid_legal = record {
    transition = t;
    is_there = bare_legal.is_there;
    fires = record {
      one_each = bare_legal.fires.one_each;
      parameters = distinct_still p s bare mid to_bare to_mid bare_mid params bare_legal.fires.parameters;
      guard = any_mid p s bare mid to_bare to_mid bare_mid params t.guard ∙ sym (any_bare p s bare mid to_bare to_mid bare_mid params t.guard) ∙ bare_legal.fires.guard;
      others = others_hold;
      picks = λ slot v is. may_still p s bare mid to_bare to_mid bare_mid t.updates params slot v (bare_legal.fires.picks slot v is);
    };
    rising = bare_legal.rising;
  }

  list_legal : AreLegal p s (crashes list)
  list_legal =
      crashes_legal p s list (filter_distinct (is_blocking s t.others params) (range_with_len 0 (process_count s)) (range_distinct 0 (process_count s)))
      (λ i h. (blocks_parts i h).2)

  all_legal : AreLegal p s (crashes list ++ step ∷ [])
  all_legal = legal_append p s (crashes list) (step ∷ []) list_legal ((subst (λ z. IsLegal p z step) (sym (after_crashes p s list)) mid_legal, tt))

  -- ---- the state after it
  abbrev pick : Slot → Option Val
  pick = picked (picks_by s x.label.choices places)

  after_bare : after_all p s (events_by s x.label places) ≡ fired bare params t.updates pick
  after_bare =
      after_append p s (crashes dead) (step ∷ []) ∙ ap (λ z. after p z step) (after_crashes p s dead)
      ∙ ap (λ o. fired_by o bare params picks) bare_legal.is_there

  after_mid : after_all p s (crashes list ++ step ∷ []) ≡ fired mid params t.updates pick
  after_mid =
      after_append p s (crashes list) (step ∷ []) ∙ ap (λ z. after p z step) (after_crashes p s list)
      ∙ ap (λ o. fired_by o mid params picks) bare_legal.is_there

  abbrev front : List ℕ
  front = take c.width places

  bare_meets : Satisfies (fired bare params t.updates pick) front c.width c.lits
  bare_meets = subst (λ z. Satisfies z front c.width c.lits) after_bare (label_leads p c pieces x s places fits are at state sat).meets

  bare_front : AreDistinctAlive bare front
  bare_front = record { alive = bare_meets.processes.alive; distinct = bare_meets.processes.distinct }

  own_front : AreDistinctAlive s front
  own_front = record { alive = All-weaker (IsAlive bare) (IsAlive s) to_bare.alive front bare_front.alive; distinct = bare_front.distinct }

  mid_front : AreDistinctAlive mid front
  mid_front = distinct_still p s bare mid to_bare to_mid bare_mid front bare_front

  has_all : HasLiterals s front c.lits
  has_all =
      All-weaker (λ l. IsTrue (literal_fits (signature_of p) c.width l)) (HasLiteral s front)
      (λ l h. has_literal p s state c.width front (record { one_each = bare_meets.one_each; processes = processes_within s front own_front }) l h) c.lits
      (all_from (literal_fits (signature_of p) c.width) c.lits fits)

  -- the cube is as true as where all others have crashed
  truth : (z : Configuration) → IsCrashed s z → AreDistinctAlive z front → all_true (fired z params t.updates pick) front c.lits ≡ all_true (fired s params t.updates pick) front c.lits
  truth z crashed distinct =
      let is = crashed_is s z crashed in
      ap (λ y. all_true (fired y params t.updates pick) front c.lits) is
      ∙ same_after s z.living params t.updates pick front own_front (subst (λ y. AreDistinctAlive y front) is distinct) c.lits has_all

  mid_meets : Satisfies (fired mid params t.updates pick) front c.width c.lits
  mid_meets = record {
    one_each = bare_meets.one_each;
    processes = record { alive = mid_front.alive; distinct = mid_front.distinct };
    holds = truth mid to_mid mid_front ∙ sym (truth bare to_bare bare_front) ∙ bare_meets.holds;
  }

  -- ---- its fault before
  faults : (i : ℕ) → slice_get list 0 ≡ Some i → fault_at p s step ≡ Some (Other i)
  faults i h =
      let refused = option_map (λ (d : Chosen). Pick d.slot) (first_refused s t.updates params picks) in
      let alive : All (IsAlive s) params = All-weaker (IsAlive bare) (IsAlive s) to_bare.alive params bare_legal.fires.parameters.alive in
      let guard : any_true s params t.guard ≡ true = sym (any_bare p s bare bare to_bare to_bare (λ j k. k) params t.guard) ∙ bare_legal.fires.guard in
      let blocks : first_blocking s t.others params ≡ Some i = first_found (is_blocking s t.others params) (range_with_len 0 (process_count s)) ∙ h in
      ap (λ o. fault_of o s params picks) bare_legal.is_there
      ∙ ap (λ o. option_or (option_map (λ j. Dead j) o) (option_or (option_map (λ j. Equal j) (first_repeat params))
      (option_or (guard_fault (any_true s params t.guard)) (option_or (option_map (λ j. Other j) (first_blocking s t.others params)) refused)))) (none_dead s params alive)
      ∙ ap (λ o. option_or (option_map (λ j. Equal j) o)
      (option_or (guard_fault (any_true s params t.guard)) (option_or (option_map (λ j. Other j) (first_blocking s t.others params)) refused))) (none_repeats params bare_legal.fires.parameters.distinct)
      ∙ ap (λ b. option_or (guard_fault b) (option_or (option_map (λ j. Other j) (first_blocking s t.others params)) refused)) guard
      ∙ ap (λ o. option_or (option_map (λ j. Other j) o) refused) blocks

  pub frees : StepFrees p c s step places
  frees = record {
    legal = subst (λ xs. AreLegal p s (crashes xs ++ step ∷ [])) (sym is_list) all_legal;
    meets = subst (λ xs. Satisfies (after_all p s (crashes xs ++ step ∷ [])) front c.width c.lits) (sym is_list) (subst (λ z. Satisfies z front c.width c.lits) (sym after_mid) mid_meets);
    other = λ i h. faults i (sym (ap (λ xs. slice_get xs 0) is_list) ∙ h);
  }
