-- Where only the processes at the places are alive, and they make the conjunction of a selection true, the event that
-- the selection names is legal and leads into the cube.
use Rattle.std.proofs.Common.{◌≡◌, ◌⊎◌, ℕ, suc, zero, ◌+◌, ◌-◌, ◌<◌, ◌≤◌, Bool, true, false, List, [], ◌∷◌, ◌++◌, length, Option, Some, None, refl, sym, ap, ◌∙◌, subst, arith, inl, inr}
use Rattle.std.specs.Prelude.{map, not, ◌||◌, IsTrue, All, slice_index, slice_index_or, unwrap_or}
use Rattle.std.specs.List.{flat_map, list_all, range_with_len, AllZip}
use Rattle.std.proofs.lemmas.Bool.{cases_lt}
use Rattle.cub_proto.specs.declared.literal.Sort.{Sort}
use Rattle.cub_proto.specs.declared.literal.Term.{Term}
use Rattle.cub_proto.specs.declared.literal.Lit.{Lit}
use Rattle.cub_proto.specs.declared.literal.Value.{Value}
use Rattle.cub_proto.specs.declared.transition.Update.{Update}
use Rattle.cub_proto.specs.declared.transition.Transition.{Transition}
use Rattle.cub_proto.specs.declared.state.Slot.{Slot}
use Rattle.cub_proto.specs.declared.state.Val.{Val}
use Rattle.cub_proto.specs.declared.state.Val.TheVariants.{Con, Proc, Int}
use Rattle.cub_proto.specs.declared.protocol.Protocol.{Protocol}
use Rattle.cub_proto.specs.Configuration.{Configuration, process_count, IsAlive, value_at}
use Rattle.cub_proto.specs.Signature.{Signature, sort_of}
use Rattle.cub_proto.specs.StateOf.{IsStateOf, IsOfSort, signature_of}
use Rattle.cub_proto.specs.Fits.{is_any, place_fits, literal_fits, update_fits}
use Rattle.cub_proto.specs.Truth.{slot_of, term_value, process_of, is_true, all_true, any_true}
use Rattle.cub_proto.specs.Effect.{meaning_of, update_of, fired}
use Rattle.cub_proto.specs.Legal.{AreDistinctAlive, IsPickable, TakesPick, MayPick, MayFire}
use Rattle.cub_proto.specs.Meets.{Satisfies}
use Rattle.cub_proto.proofs.StateValues.{value_of_sort}
use Rattle.cub_cube.specs.Mentions.{terms_in}
use Rattle.cub_cube.specs.Rename.{renamed_all, along, IsInjection, Agree}
use Rattle.cub_cube.specs.Step.{target_of, update_places}
use Rattle.cub_base.proofs.Bools.{and_both, and_left, and_right, less_is}
use Rattle.cub_base.proofs.Members.{Has, has_all, Distinct, distinct_pairs, pairs_distinct, has_Contains, has_range}
use Rattle.cub_cube.proofs.States.{processes_within, place_within}
use Rattle.cub_cube.proofs.Renames.{renamed_all_true, at_along, length-along}
use Rattle.cub_cube.proofs.RenamedFits.{all_fits_within}
use Rattle.cub_cube.proofs.Placing.{along_processes, identity, identity_at, identity_injection}
use Rattle.std.proofs.lemmas.List.FromFn.{length-range_with_len}
use Rattle.std.proofs.lemmas.List.{length_push}
use Rattle.updates.specs.declared.choice.Choice.{Choice}
use Rattle.updates.specs.Ways.{way_value}
use Rattle.updates.specs.Chosen.{reading_places, choice_lits, lits_by, value_by, chosen_value}
use Rattle.updates.specs.Through.{PickAgrees, literal_before}
use Rattle.updates.proofs.WayLemmas.{true_left, true_right}
use Rattle.updates.proofs.Fitting.{renamed_any}
use Rattle.updates.proofs.ChoiceLemmas.{TakesWay, way_counts}
use Rattle.updates.proofs.StepLemmas.{all_member, ChoiceParts, before_is_after}
use Rattle.piece_choices.specs.Placings.{is_among, free_places, new_places}
use Rattle.piece_choices.specs.Selections.{Selection}
use Rattle.piece_choices.specs.Conjunction.{guard_lits, permissions, conjunction}
use Rattle.piece_laws.specs.Event.{picked_value, pick_by}
use Rattle.piece_choices.proofs.ListLemmas.{has_filter, not_among, has_place}
use Rattle.piece_choices.proofs.PlacingLemmas.{IsPlacing}
use Rattle.piece_choices.proofs.PickLemmas.{MayTake, constructor, old, process}
use Rattle.piece_choices.proofs.SelectionLemmas.{IsSelection}
use Rattle.piece_choices.proofs.Suiting.{Suits, its_terms, rising_distinct, taken_pick}
use Rattle.piece_laws.proofs.PickSlots.{pick_own, pick_from}
use Rattle.piece_choices.proofs.Fitting.{TransitionFits, alternative_fits, placed, placing_narrow, cube_narrow, params_below, updates_at, choice_is, parts_of, has_choices}
use Rattle.cub_cube.proofs.Terms.{terms_in_rise}

-- ---- alternatives
pub any_at : (s : Configuration) (places : List ℕ) (conjs : List (List Lit)) (n : ℕ) → n < length conjs → IsTrue (all_true s places (slice_index_or conjs n [])) → IsTrue (any_true s places conjs)
any_at s places [] n below h = absurd (omega arith)
any_at s places (c ∷ cs) zero below h = ap (λ b. b || any_true s places cs) h
any_at s places (c ∷ cs) (suc n) below h = by (all_true s places c) (any_at s places cs n (omega arith) h)
  where
    by : (b : Bool) → IsTrue (any_true s places cs) → IsTrue (b || any_true s places cs)
    by true k = refl
    by false k = k

pub along_push : (r : List ℕ) (q : ℕ) (places : List ℕ) → along (r ++ q ∷ []) places ≡ along r places ++ slice_index places q ∷ []
along_push [] q places = refl
along_push (p ∷ r) q places = ap (λ xs. slice_index places p ∷ xs) (along_push r q places)

along_has : (r places : List ℕ) (i : ℕ) → Has (along r places) i → (q : ℕ) × Has r q × (slice_index places q ≡ i)
along_has [] places i h = absurd h
along_has (p ∷ r) places i (inl same) = (p, inl refl, same)
along_has (p ∷ r) places i (inr later) = let found = along_has r places i later in (found.0, inr found.1, found.2)

pub has_along : (r places : List ℕ) (q : ℕ) → Has r q → Has (along r places) (slice_index places q)
has_along [] places q h = absurd h
has_along (p ∷ r) places q (inl same) = inl (ap (slice_index places) same)
has_along (p ∷ r) places q (inr later) = inr (has_along r places q later)

-- a renamed alternative at the places is the alternative at the composed places
pub alternative_true : (sig : Signature) (s : Configuration) (r places : List ℕ) (lits : List Lit) → IsTrue (list_all (literal_fits sig (length r)) lits) → all_true s places (renamed_all r lits) ≡ all_true s (along r places) lits
alternative_true sig s r places lits fits = renamed_all_true s r places lits (all_fits_within sig (length r) lits fits)

-- what the permissions say at one of their places
permission_at : (p : Protocol) (t : Transition) (fit : TransitionFits p t) (s : Configuration) (params places : List ℕ) → length params ≡ t.params → (qs ns : List ℕ) → AllZip (λ q n. n < length t.others) qs ns
    → IsTrue (all_true s places (permissions t params qs ns)) → (q : ℕ) → Has qs q → IsTrue (any_true s (along params places ++ slice_index places q ∷ []) t.others)
permission_at p t fit s params places size [] ns each h q none = absurd none
permission_at p t fit s params places size (r ∷ qs) [] each h q at = absurd each
permission_at p t fit s params places size (r ∷ qs) (n ∷ ns) each h q (inl same) =
    let first = true_left s places (renamed_all (params ++ r ∷ []) (slice_index_or t.others n [])) (permissions t params qs ns) h in
    let width : length (params ++ r ∷ []) ≡ t.params + 1 = length_push params r ∙ ap (λ m. m + 1) size in
    let fits = subst (λ m. IsTrue (list_all (literal_fits (signature_of p) m) (slice_index_or t.others n []))) (sym width) (alternative_fits (signature_of p) (t.params + 1) t.others n fit.others each.0) in
    let at_places : IsTrue (all_true s (along (params ++ r ∷ []) places) (slice_index_or t.others n [])) = sym (alternative_true (signature_of p) s (params ++ r ∷ []) places (slice_index_or t.others n []) fits) ∙ first in
    subst (λ i. IsTrue (any_true s (along params places ++ slice_index places i ∷ []) t.others)) same
    (any_at s (along params places ++ slice_index places r ∷ []) t.others n each.0 (subst (λ xs. IsTrue (all_true s xs (slice_index_or t.others n []))) (along_push params r places) at_places))
permission_at p t fit s params places size (r ∷ qs) (n ∷ ns) each h q (inr later) =
    permission_at p t fit s params places size qs ns each.1 (true_right s places (renamed_all (params ++ r ∷ []) (slice_index_or t.others n [])) (permissions t params qs ns) h) q later

any_is : (v : Value) → is_any v ≡ true → v ≡ Value.Any
any_is (Value.Con c) h = cc
any_is (Value.Read t) h = cc
any_is (Value.Proc side) h = cc
any_is (Value.Sum base add) h = cc
any_is Value.Any h = refl

flat_true : (s : Configuration) (places : List ℕ) (f : Choice → List Lit) (ds : List Choice) (d : Choice) → IsTrue (all_true s places (flat_map f ds)) → Has ds d → IsTrue (all_true s places (f d))
flat_true s places f [] d h none = absurd none
flat_true s places f (e ∷ ds) d h (inl same) = subst (λ x. IsTrue (all_true s places (f x))) same (true_left s places (f e) (flat_map f ds) h)
flat_true s places f (e ∷ ds) d h (inr later) = flat_true s places f ds d (true_right s places (f e) (flat_map f ds) h) later

module _ (p : Protocol) (t : Transition) (fit : TransitionFits p t) (width : ℕ) (lits : List Lit) (fits : IsTrue (list_all (literal_fits (signature_of p) width) lits))
    (x : Selection) (is : IsSelection (signature_of p) t width (terms_in lits) x)
    (s : Configuration) (places : List ℕ) (state : IsStateOf p s) (size : length places ≡ x.picking.width) (distinct : AreDistinctAlive s places)
    (holds : IsTrue (all_true s places (conjunction (signature_of p) t x lits))) where
  abbrev params : List ℕ
  params = x.placing.params

  abbrev early : List ℕ
  early = free_places x.placing.params x.placing.width

  abbrev late : List ℕ
  late = new_places x.placing.width x.picking.width

  abbrev chosen_lits : List Lit
  chosen_lits = flat_map (choice_lits (signature_of p) t.updates x.placing.params) x.picking.choices

  abbrev before_lits : List Lit
  before_lits = map (literal_before (signature_of p) t.updates x.placing.params x.picking.choices) lits

  record Parts : Type 0 where
    guard : IsTrue (all_true s places (guard_lits t x.placing.params x.guard))
    early_true : IsTrue (all_true s places (permissions t x.placing.params early x.others))
    chosen_true : IsTrue (all_true s places chosen_lits)
    late_true : IsTrue (all_true s places (permissions t x.placing.params late x.late))
    before_true : IsTrue (all_true s places before_lits)

  parts : Parts
  parts =
      let one = permissions t x.placing.params early x.others in
      let three = permissions t x.placing.params late x.late in
      let rest = true_right s places (guard_lits t x.placing.params x.guard) (one ++ (chosen_lits ++ (three ++ before_lits))) holds in
      let rest2 = true_right s places one (chosen_lits ++ (three ++ before_lits)) rest in
      let rest3 = true_right s places chosen_lits (three ++ before_lits) rest2 in
      record {
        guard = true_left s places (guard_lits t x.placing.params x.guard) (one ++ (chosen_lits ++ (three ++ before_lits))) holds;
        early_true = true_left s places one (chosen_lits ++ (three ++ before_lits)) rest;
        chosen_true = true_left s places chosen_lits (three ++ before_lits) rest2;
        late_true = true_left s places three before_lits rest3;
        before_true = true_right s places three before_lits rest3;
      }

  its_placing : IsPlacing width t.params x.placing
  its_placing = placed p t fit width lits fits x is

  within : (q : ℕ) → Has x.placing.params q → q < length places
  within q h = subst (λ n. q < n) (sym size) (params_below p t fit width lits fits x is q h)

  inside : All (λ q. q < length places) x.placing.params
  inside = has_all (λ q. q < length places) x.placing.params within

  apart_places : Distinct places
  apart_places = pairs_distinct places distinct.distinct

  chosen_parts : (d : Choice) → Has x.picking.choices d → ChoiceParts p (length places) t.updates x.placing.params d
  chosen_parts d h = subst (λ n. ChoiceParts p n t.updates x.placing.params d) (sym size) (parts_of p t fit width lits fits x is d h)

  chosen_suits : (d : Choice) → Has x.picking.choices d → Suits (signature_of p) t.updates x.placing.params (length places) (terms_in lits) d
  chosen_suits d h = subst (λ n. Suits (signature_of p) t.updates x.placing.params n (terms_in lits) d) (sym size) (choice_is p t fit width lits fits x is d h)

  updates_fit : IsTrue (list_all (update_fits (signature_of p) (length x.placing.params)) t.updates)
  updates_fit = updates_at p t fit width lits fits x is

  way_true : (d : Choice) → Has x.picking.choices d → IsTrue (all_true s places (choice_lits (signature_of p) t.updates x.placing.params d))
  way_true d h = flat_true s places (choice_lits (signature_of p) t.updates x.placing.params) x.picking.choices d parts.chosen_true h

  narrow : width ≤ length places
  narrow = subst (λ n. width ≤ n) (sym size) (cube_narrow p t fit width lits fits x is)

  -- ---- picks
  picked_means : (u : Term) (v : Value) → IsTrue (place_fits (length places) u) → MayTake (signature_of p) (length places) u v
      → unwrap_or (picked_value places (Some v)) (term_value s places u) ≡ meaning_of s places v (term_value s places u)
  picked_means u _ fits (constructor k c sort below) = refl
  picked_means u _ fits (old g sort at) =
      subst (λ w. term_value s places w ≡ Proc (process_of (value_at s (Slot.Global g)))) (sym at)
      (of_process (value_at s (Slot.Global g))
      (value_of_sort p s state places (Term.Global g) Sort.Proc (processes_within s places distinct) refl (ap (sort_of (signature_of p)) (sym at) ∙ sort)))
    where
      of_process : (w : Val) → IsOfSort (signature_of p) (process_count s) Sort.Proc w → w ≡ Proc (process_of w)
      of_process (Con c) h = absurd h
      of_process (Proc i) h = refl
      of_process (Int n) h = absurd h
  picked_means u _ fits (process g q sort at below) = refl

  own_pick : (d : Choice) → Has x.picking.choices d → pick_by x.picking.choices places (slot_of places d.term) ≡ picked_value places d.pick
  own_pick d h =
      pick_own x.picking.choices places d apart_places (subst Distinct (sym (its_terms (signature_of p) t width (terms_in lits) x is)) (rising_distinct (terms_in lits) (terms_in_rise lits)))
      (λ e at. (chosen_parts e at).place) h

  pub agrees : (d : Choice) → Has x.picking.choices d → PickAgrees s places t.updates x.placing.params (pick_by x.picking.choices places) d
  agrees d h any =
      let pick = (chosen_suits d h).some any in
      ap (λ o. unwrap_or o (term_value s places d.term)) (own_pick d h ∙ ap (picked_value places) pick.1)
      ∙ picked_means d.term pick.0 (chosen_parts d h).place pick.2
      ∙ ap (λ v. meaning_of s places v (term_value s places d.term)) (sym (taken_pick t.updates x.placing.params d pick.0 any pick.1))

  pickable : (u : Term) (w : Value) (v : Val) → MayTake (signature_of p) (length places) u w → picked_value places (Some w) ≡ Some v → (sort : Sort) × (sort_of (signature_of p) u ≡ Some sort) × IsPickable p s sort v
  pickable u _ v (constructor k c sort below) e =
      let same : Con c ≡ v = cc in
      (Sort.Fin k, sort, subst (IsPickable p s (Sort.Fin k)) same (record { of_sort = below; alive = λ i h. cc }))
  pickable u _ v (old g sort at) e = cc
  pickable u _ v (process g q sort at below) e =
      let same : Proc (slice_index places q) ≡ v = cc in (
        Sort.Proc,
        sort,
        subst (IsPickable p s Sort.Proc) same
            (record { of_sort = place_within s places q distinct below; alive = λ i h. (let equal : slice_index places q ≡ i = cc in subst (IsAlive s) equal (distinct.alive q 0 below)) }),
      )

  takes_pick : (d : Choice) (v : Val) → Has x.picking.choices d → picked_value places d.pick ≡ Some v
      → TakesPick p s (update_places (along x.placing.params places) places d.term) (update_of t.updates (target_of d.term)) (sort_of (signature_of p) d.term) v
  takes_pick d v h e = by (is_any (chosen_value t.updates x.placing.params d)) refl
    where
      by_update : (o : Option Update) → update_of t.updates (target_of d.term) ≡ o → is_any (value_by o x.placing.params d) ≡ true → TakesWay o d → IsTrue (all_true s places (lits_by (signature_of p) o x.placing.params d))
          → (sort : Sort) × (sort_of (signature_of p) d.term ≡ Some sort) × IsPickable p s sort v
          → TakesPick p s (update_places (along x.placing.params places) places d.term) o (sort_of (signature_of p) d.term) v
      by_update None is_none any way true_lits sorted = cc
      by_update (Some u) is_some any way true_lits sorted = record {
        its_update = u;
        is_update = refl;
        free =
            way_counts p t.updates x.placing.params updates_fit s places state distinct inside d u is_some (chosen_parts d h).place way true_lits
            ∙ any_is (way_value u d.branch) (sym (renamed_any (reading_places x.placing.params d.term) (way_value u d.branch)) ∙ any);
        its_sort = sorted.0;
        is_sort = sorted.1;
        pickable = sorted.2;
      }

      by : (b : Bool) → is_any (chosen_value t.updates x.placing.params d) ≡ b → TakesPick p s (update_places (along x.placing.params places) places d.term) (update_of t.updates (target_of d.term)) (sort_of (signature_of p) d.term) v
      by true any =
          let pick = (chosen_suits d h).some any in
          by_update (update_of t.updates (target_of d.term)) refl any (chosen_parts d h).way (way_true d h)
          (pickable d.term pick.0 v pick.2 (ap (picked_value places) (sym pick.1) ∙ e))
      by false any = absurd (let gone : picked_value places d.pick ≡ None = ap (picked_value places) ((chosen_suits d h).none any) in cc)

  may_pick_at : (u : Term) (v : Val) → IsTrue (place_fits (length places) u) → TakesPick p s (update_places (along x.placing.params places) places u) (update_of t.updates (target_of u)) (sort_of (signature_of p) u) v
      → MayPick p s t.updates (along x.placing.params places) (slot_of places u) v
  may_pick_at (Term.Global g) v fits takes = takes
  may_pick_at (Term.Cell a q) v fits takes = (distinct.alive q 0 (less_is q (length places) fits), takes)

  may_pick : (slot : Slot) (v : Val) → pick_by x.picking.choices places slot ≡ Some v → MayPick p s t.updates (along x.placing.params places) slot v
  may_pick slot v e =
      let found = pick_from x.picking.choices places slot v e in
      subst (λ o. MayPick p s t.updates (along x.placing.params places) o v) found.2
      (may_pick_at found.0.term v (chosen_parts found.0 found.1).place (takes_pick found.0 v found.1 found.3))

  -- ---- the guard and the universal guard
  guard_holds : IsTrue (any_true s (along x.placing.params places) t.guard)
  guard_holds =
      any_at s (along x.placing.params places) t.guard x.guard is.guard
      (sym (alternative_true (signature_of p) s x.placing.params places (slice_index_or t.guard x.guard [])
      (subst (λ n. IsTrue (list_all (literal_fits (signature_of p) n) (slice_index_or t.guard x.guard []))) (sym its_placing.one_each) (alternative_fits (signature_of p) t.params t.guard x.guard fit.guard is.guard)))
      ∙ parts.guard)

  others_hold_at : (q : ℕ) → q < length places → (Has x.placing.params q → ⊥) → IsTrue (any_true s (along x.placing.params places ++ slice_index places q ∷ []) t.others)
  others_hold_at q below free = by (cases_lt q x.placing.width)
    where
      by : (q < x.placing.width) ⊎ (x.placing.width ≤ q) → IsTrue (any_true s (along x.placing.params places ++ slice_index places q ∷ []) t.others)
      by (inl small) =
          permission_at p t fit s x.placing.params places its_placing.one_each early x.others is.others parts.early_true q
          (has_filter (λ i. not (is_among x.placing.params i)) (range_with_len 0 x.placing.width) q (subst (Has (range_with_len 0 x.placing.width)) (let e : 0 + q ≡ q = omega arith in e) (has_range 0 x.placing.width q small)) (ap not (not_among x.placing.params q free)))
      by (inr large) =
          let le = placing_narrow p t fit width lits fits x is in
          permission_at p t fit s x.placing.params places its_placing.one_each late x.late is.late parts.late_true q
          (subst (Has (range_with_len x.placing.width (x.picking.width - x.placing.width))) (let e : x.placing.width + (q - x.placing.width) ≡ q = omega arith in e)
          (has_range x.placing.width (x.picking.width - x.placing.width) (q - x.placing.width) (omega arith)))

  params_injection : IsInjection t.params (length places) x.placing.params
  params_injection = record {
    one_each = its_placing.one_each;
    within = inside;
    apart = distinct_pairs x.placing.params its_placing.distinct;
  }

  -- the event is legal where no other process is alive
  pub fires : ((i : ℕ) → IsAlive s i → Has places i) → MayFire p s t (along x.placing.params places) (pick_by x.picking.choices places)
  fires only = record {
    one_each = length-along x.placing.params places ∙ its_placing.one_each;
    parameters = along_processes s places x.placing.params t.params params_injection distinct;
    guard = guard_holds;
    others = λ i alive absent.
        (let found = has_place places i (only i alive) in
        subst (λ j. IsTrue (any_true s (along x.placing.params places ++ j ∷ []) t.others)) found.2
        (others_hold_at found.0 found.1
        (λ h. absent (has_Contains (along x.placing.params places) i (subst (Has (along x.placing.params places)) found.2 (has_along x.placing.params places found.0 h))))));
    picks = may_pick;
  }

  -- ---- the state after it
  abbrev front : List ℕ
  front = along (identity width) places

  front_agree : Agree width (along (identity width) places) places
  front_agree q below = at_along (identity width) places q (subst (λ n. q < n) (sym (length-range_with_len 0 width)) below) ∙ ap (slice_index places) (identity_at width q below)

  lits_after : (ls : List Lit) → ((l : Lit) → Has ls l → Has lits l) → IsTrue (all_true s places (map (literal_before (signature_of p) t.updates x.placing.params x.picking.choices) ls))
      → IsTrue (all_true (fired s (along x.placing.params places) t.updates (pick_by x.picking.choices places)) (along (identity width) places) ls)
  lits_after [] among h = refl
  lits_after (l ∷ ls) among h =
      let at = among l (inl refl) in
      let same = before_is_after p t.updates x.placing.params updates_fit s places state distinct inside (pick_by x.picking.choices places) x.picking.choices width narrow l
      (all_member (literal_fits (signature_of p) width) lits l fits at) chosen_parts (has_choices p t fit width lits fits x is l at) agrees (λ d e m. way_true d e) (along (identity width) places) front_agree in
      and_both (is_true (fired s (along x.placing.params places) t.updates (pick_by x.picking.choices places)) (along (identity width) places) l) (all_true (fired s (along x.placing.params places) t.updates (pick_by x.picking.choices places)) (along (identity width) places) ls)
      (sym same ∙ and_left (is_true s places (literal_before (signature_of p) t.updates x.placing.params x.picking.choices l)) (all_true s places (map (literal_before (signature_of p) t.updates x.placing.params x.picking.choices) ls)) h)
      (lits_after ls (λ m k. among m (inr k)) (and_right (is_true s places (literal_before (signature_of p) t.updates x.placing.params x.picking.choices l)) (all_true s places (map (literal_before (signature_of p) t.updates x.placing.params x.picking.choices) ls)) h))

  front_injection : IsInjection width (length places) (identity width)
  front_injection =
      let own = identity_injection width in
      let le = narrow in
      record {
        one_each = own.one_each;
        within = λ k d below. omega (arith, own.within k d below);
        apart = own.apart;
      }

  pub satisfies_after : Satisfies (fired s (along x.placing.params places) t.updates (pick_by x.picking.choices places)) (along (identity width) places) width lits
  satisfies_after =
      let own = along_processes s places (identity width) width front_injection distinct in
      record {
        one_each = length-along (identity width) places ∙ length-range_with_len 0 width;
        processes = record { alive = own.alive; distinct = own.distinct };
        holds = lits_after lits (λ l h. h) parts.before_true;
      }
