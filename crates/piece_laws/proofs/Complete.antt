-- Where a legal event leads into a cube, the state before it makes the conjunction of a selection true.
use Rattle.std.proofs.Common.{◌≡◌, ◌⊎◌, ℕ, suc, ◌+◌, ◌<◌, ◌≤◌, Bool, true, false, List, [], ◌∷◌, ◌++◌, length, Option, Some, None, refl, sym, ap, ◌∙◌, subst, arith, inl, inr}
use Rattle.std.specs.Prelude.{map, not, ◌||◌, IsTrue, All, Contains, slice_index, slice_index_or}
use Rattle.std.specs.List.{flat_map, list_all, AllZip}
use Rattle.std.proofs.lemmas.List.{length_push, length-append}
use Rattle.cub_proto.specs.declared.literal.Term.{Term}
use Rattle.cub_proto.specs.declared.literal.Lit.{Lit}
use Rattle.cub_proto.specs.declared.transition.Update.{Update}
use Rattle.cub_proto.specs.declared.transition.Transition.{Transition}
use Rattle.cub_proto.specs.declared.state.Slot.{Slot}
use Rattle.cub_proto.specs.declared.state.Val.{Val}
use Rattle.cub_proto.specs.declared.protocol.Protocol.{Protocol}
use Rattle.cub_proto.specs.Configuration.{Configuration, IsAlive}
use Rattle.cub_proto.specs.StateOf.{IsStateOf, signature_of}
use Rattle.cub_proto.specs.Fits.{literal_fits, place_fits, update_fits}
use Rattle.cub_proto.specs.Truth.{is_true, all_true, any_true}
use Rattle.cub_proto.specs.Effect.{update_of, fired}
use Rattle.cub_proto.specs.Legal.{AreDistinctAlive, MayFire}
use Rattle.cub_proto.specs.Meets.{Satisfies}
use Rattle.cub_cube.specs.Mentions.{terms_in}
use Rattle.cub_cube.specs.Rename.{renamed_all, along}
use Rattle.cub_cube.specs.Step.{target_of}
use Rattle.cub_cube.proofs.Agreeing.{agree_all_true}
use Rattle.cub_base.proofs.Bools.{and_both}
use Rattle.cub_base.proofs.Members.{Has, has_cases, has_map, has_all, all_has, Distinct, distinct_pairs, pairs_distinct, contains_Has}
use Rattle.cub_cube.proofs.RenamedFits.{all_fits_within}
use Rattle.updates.specs.declared.choice.Choice.{Choice}
use Rattle.updates.specs.Ways.{Way, way, ways, way_lits}
use Rattle.updates.specs.Chosen.{reading_places, choice, ways_of, lits_by, choice_lits}
use Rattle.updates.specs.Through.{literal_before}
use Rattle.updates.proofs.WayLemmas.{true_both, conditions_fit, in_ways, way_found}
use Rattle.updates.proofs.Fitting.{along_reading, term_update, conditions_from}
use Rattle.updates.proofs.ChoiceLemmas.{TakesWay, reading_processes, length_at, way_lits_true, choice_lits_fit}
use Rattle.updates.proofs.Present.{TermFits}
use Rattle.updates.proofs.StepLemmas.{all_member, ChoiceParts, before_is_after}
use Rattle.piece_choices.specs.Placings.{Placing, placings_from, placings, is_among, free_places, new_places}
use Rattle.piece_choices.specs.Picks.{Picking, pickings}
use Rattle.piece_choices.specs.Selections.{Selection, selection}
use Rattle.piece_choices.specs.Conjunction.{guard_lits, permissions, conjunction}
use Rattle.piece_choices.proofs.ListLemmas.{among_not, at_front, along_front, front_agrees, place_has, zip_right, zip_find}
use Rattle.piece_choices.proofs.PlacingLemmas.{IsPlacing, is_placing, Placed, place_all, places_apart}
use Rattle.piece_choices.proofs.SelectionLemmas.{IsSelection}
use Rattle.piece_choices.proofs.Suiting.{ways_are, cube_term, place_fits_wider}
use Rattle.piece_choices.proofs.Fitting.{TransitionFits, alternative_fits, free_is, new_is, parts_of, has_choices}
use Rattle.piece_laws.proofs.Sound.{along_push, alternative_true}
use Rattle.piece_laws.proofs.Walks.{Walked, Walk, walk}

-- ---- some alternative
pub at_any : (s : Configuration) (places : List ℕ) (conjs : List (List Lit)) → IsTrue (any_true s places conjs) → (n : ℕ) × (n < length conjs) × IsTrue (all_true s places (slice_index_or conjs n []))
at_any s places [] h = cc
at_any s places (c ∷ cs) h = by (all_true s places c) refl h (at_any s places cs)
  where
    by : (b : Bool) → all_true s places c ≡ b → IsTrue (b || any_true s places cs) → (IsTrue (any_true s places cs) → (n : ℕ) × (n < length cs) × IsTrue (all_true s places (slice_index_or cs n [])))
        → (n : ℕ) × (n < length (c ∷ cs)) × IsTrue (all_true s places (slice_index_or (c ∷ cs) n []))
    by true e h rest = (0, omega arith, e)
    by false e h rest = let found = rest h in (suc found.0, omega (arith, found.1), found.2)

flat_all : (s : Configuration) (places : List ℕ) (f : Choice → List Lit) (ds : List Choice) → ((d : Choice) → Has ds d → IsTrue (all_true s places (f d))) → IsTrue (all_true s places (flat_map f ds))
flat_all s places f [] each = refl
flat_all s places f (d ∷ ds) each = true_both s places (f d) (flat_map f ds) (each d (inl refl)) (flat_all s places f ds (λ e h. each e (inr h)))

map_all : (s : Configuration) (places : List ℕ) (f : Lit → Lit) (ls : List Lit) → ((l : Lit) → Has ls l → IsTrue (is_true s places (f l))) → IsTrue (all_true s places (map f ls))
map_all s places f [] each = refl
map_all s places f (l ∷ ls) each = and_both (is_true s places (f l)) (all_true s places (map f ls)) (each l (inl refl)) (map_all s places f ls (λ m h. each m (inr h)))

module _ (p : Protocol) (t : Transition) (fit : TransitionFits p t) (width : ℕ) (lits : List Lit) (fits : IsTrue (list_all (literal_fits (signature_of p) width) lits))
    (s : Configuration) (state : IsStateOf p s) (processes : List ℕ) (pick : Slot → Option Val) (fires : MayFire p s t processes pick)
    (qs : List ℕ) (meets : Satisfies (fired s processes t.updates pick) qs width lits) where
  -- ---- places for the parameters
  cube_alive : (i : ℕ) → Has qs i → IsAlive s i
  cube_alive i h = all_has (IsAlive s) qs i meets.processes.alive h

  params_alive : (i : ℕ) → Has processes i → IsAlive s i
  params_alive i h = all_has (IsAlive s) processes i fires.parameters.alive h

  params_apart : Distinct processes
  params_apart = pairs_distinct processes fires.parameters.distinct

  its_placed : Placed width [] (length qs) qs processes (length processes)
  its_placed =
      let size = meets.one_each in
      place_all width [] qs [] processes (omega arith) (pairs_distinct qs meets.processes.distinct) (λ q none. absurd none) (λ q le lt. absurd (omega arith)) refl params_apart

  placing : Placing
  placing = its_placed.its

  placing_in : Has (placings width t.params) its_placed.its
  placing_in =
      subst (λ n. Has (placings width n) its_placed.its) fires.one_each
      (subst (λ n. Has (placings_from width [] n (length processes)) its_placed.its) meets.one_each its_placed.inside)

  placing_is : IsPlacing width t.params its_placed.its
  placing_is = is_placing width t.params its_placed.its placing_in

  -- the places of the cube and of the parameters
  abbrev base : List ℕ
  base = qs ++ its_placed.new

  base_alive : (i : ℕ) → Has (qs ++ its_placed.new) i → IsAlive s i
  base_alive i h = by (has_cases qs its_placed.new i h)
    where
      by : Has qs i ⊎ Has its_placed.new i → IsAlive s i
      by (inl early) = cube_alive i early
      by (inr late) = params_alive i (its_placed.from i late)

  base_processes : AreDistinctAlive s (qs ++ its_placed.new)
  base_processes = record { alive = has_all (IsAlive s) (qs ++ its_placed.new) base_alive; distinct = distinct_pairs (qs ++ its_placed.new) its_placed.distinct }

  base_wide : width ≤ length (qs ++ its_placed.new)
  base_wide = let a = placing_is.wide in let b = its_placed.size in omega arith

  base_params : (q : ℕ) → Has its_placed.its.params q → q < length (qs ++ its_placed.new)
  base_params q h = let a = placing_is.below q h in let b = its_placed.size in omega arith

  base_inside : All (λ q. q < length (qs ++ its_placed.new)) its_placed.its.params
  base_inside = has_all (λ q. q < length (qs ++ its_placed.new)) its_placed.its.params base_params

  updates_fit : IsTrue (list_all (update_fits (signature_of p) (length its_placed.its.params)) t.updates)
  updates_fit = subst (λ n. IsTrue (list_all (update_fits (signature_of p) n) t.updates)) (sym placing_is.one_each) fit.updates

  -- ---- a way for each term
  record WayAt (u : Term) (c : Choice) : Type 0 where
    inside : Has (ways_of (update_of t.updates (target_of u)) u) c
    holds : IsTrue (all_true s (qs ++ its_placed.new) (choice_lits (signature_of p) t.updates its_placed.its.params c))

  way_at : (u : Term) → Has (terms_in lits) u → (c : Choice) × WayAt u c
  way_at u at = by (update_of t.updates (target_of u)) refl
    where
      term : TermFits (signature_of p) width u
      term = cube_term (signature_of p) width lits u fits at

      place : IsTrue (place_fits (length (qs ++ its_placed.new)) u)
      place = place_fits_wider width (length (qs ++ its_placed.new)) u base_wide term.place

      by : (o : Option Update) → update_of t.updates (target_of u) ≡ o → (c : Choice) × WayAt u c
      by None e = (
        choice u (way 0 []),
        record {
          inside = subst (λ o. Has (ways_of o u) (choice u (way 0 []))) (sym e) (inl refl);
          holds = subst (λ o. IsTrue (all_true s (qs ++ its_placed.new) (lits_by (signature_of p) o its_placed.its.params (choice u (way 0 []))))) (sym e) refl;
        },
      )
      by (Some v) e =
          let r = reading_places its_placed.its.params u in
          let at_processes = along r (qs ++ its_placed.new) in
          let fits_there = term_update (signature_of p) its_placed.its.params t.updates u v updates_fit e in
          let size : length at_processes ≡ length r = length_at p t.updates its_placed.its.params updates_fit s (qs ++ its_placed.new) state base_processes base_inside u in
          let found = way_found p s at_processes state (reading_processes p t.updates its_placed.its.params updates_fit s (qs ++ its_placed.new) state base_processes base_inside u place) v.branches
          (subst (λ n. IsTrue (conditions_fit p n v.branches)) (sym size) (conditions_from p (length r) fits_there.sort v.branches fits_there.branches)) in
          let w : Way = way found.branch found.fails in (
            choice u w,
            record {
              inside = subst (λ o. Has (ways_of o u) (choice u w)) (sym e) (has_map (choice u) (ways v.branches) w (in_ways v.branches found.branch found.fails found.is));
              holds = subst (λ o. IsTrue (all_true s (qs ++ its_placed.new) (lits_by (signature_of p) o its_placed.its.params (choice u w)))) (sym e)
                  (way_lits_true p t.updates its_placed.its.params updates_fit s (qs ++ its_placed.new) state base_processes base_inside (choice u w) v e found.is
                  ∙ ap (λ xs. all_true s xs (way_lits (signature_of p) v.branches w)) (sym (along_reading its_placed.its.params (qs ++ its_placed.new) u)) ∙ found.holds);
            },
          )

  plain : (cs : List Choice) × AllZip WayAt (terms_in lits) cs
  plain = zip_find WayAt (terms_in lits) way_at

  plain_fits : (c : Choice) → Has plain.0 c → TermFits (signature_of p) width c.term
  plain_fits c h =
      let found = zip_right WayAt (terms_in lits) plain.0 c plain.1 h in
      let is = ways_are (update_of t.updates (target_of found.0)) found.0 c found.2.inside in
      subst (TermFits (signature_of p) width) (sym is.term) (cube_term (signature_of p) width lits found.0 fits found.1)

  -- ---- the picks
  walked : Walk p t its_placed.its.params updates_fit width s state processes pick fires.picks plain.0 (qs ++ its_placed.new)
  walked = walk p t its_placed.its.params updates_fit width s state processes pick fires.picks plain.0 (qs ++ its_placed.new) base_alive its_placed.distinct base_wide plain_fits

  abbrev all_places : List ℕ
  all_places = (qs ++ its_placed.new) ++ walked.more

  all_processes : AreDistinctAlive s ((qs ++ its_placed.new) ++ walked.more)
  all_processes = record { alive = has_all (IsAlive s) ((qs ++ its_placed.new) ++ walked.more) walked.alive; distinct = distinct_pairs ((qs ++ its_placed.new) ++ walked.more) walked.distinct }

  longer : length (qs ++ its_placed.new) ≤ length ((qs ++ its_placed.new) ++ walked.more)
  longer = let l = length-append (qs ++ its_placed.new) walked.more in omega arith

  all_params : along its_placed.its.params ((qs ++ its_placed.new) ++ walked.more) ≡ processes
  all_params = along_front its_placed.its.params (qs ++ its_placed.new) walked.more base_params ∙ its_placed.at

  all_below : (q : ℕ) → Has its_placed.its.params q → q < length ((qs ++ its_placed.new) ++ walked.more)
  all_below q h = let a = base_params q h in let b = longer in omega arith

  -- a place that is no parameter has a process that is none
  no_parameter : (q : ℕ) → q < length ((qs ++ its_placed.new) ++ walked.more) → (Has its_placed.its.params q → ⊥) → Contains processes (slice_index ((qs ++ its_placed.new) ++ walked.more) q) → ⊥
  no_parameter q below absent inside =
      let i = slice_index ((qs ++ its_placed.new) ++ walked.more) q in
      let among : Has (along its_placed.its.params ((qs ++ its_placed.new) ++ walked.more)) i = subst (λ xs. Has xs i) (sym all_params) (contains_Has processes i inside) in
      let found = along_has its_placed.its.params ((qs ++ its_placed.new) ++ walked.more) i among in
      let same : found.0 ≡ q = places_apart ((qs ++ its_placed.new) ++ walked.more) walked.distinct found.0 q (all_below found.0 found.1) below found.2 in
      absent (subst (Has its_placed.its.params) same found.1)
    where
      along_has : (r places : List ℕ) (i : ℕ) → Has (along r places) i → (q : ℕ) × Has r q × (slice_index places q ≡ i)
      along_has [] places i h = absurd h
      along_has (r ∷ rs) places i (inl same) = (r, inl refl, same)
      along_has (r ∷ rs) places i (inr later) = let found = along_has rs places i later in (found.0, inr found.1, found.2)

  -- ---- the universal guard
  abbrev AllowedAt : ℕ → ℕ → Type 0
  AllowedAt q n = (n < length t.others) × IsTrue (all_true s ((qs ++ its_placed.new) ++ walked.more) (renamed_all (its_placed.its.params ++ q ∷ []) (slice_index_or t.others n [])))

  allowed_at : (q : ℕ) → q < length ((qs ++ its_placed.new) ++ walked.more) → (Has its_placed.its.params q → ⊥) → (n : ℕ) × AllowedAt q n
  allowed_at q below absent =
      let i = slice_index ((qs ++ its_placed.new) ++ walked.more) q in
      let found = at_any s (processes ++ i ∷ []) t.others (fires.others i (walked.alive i (place_has ((qs ++ its_placed.new) ++ walked.more) q below)) (no_parameter q below absent)) in
      let size : length (its_placed.its.params ++ q ∷ []) ≡ t.params + 1 = length_push its_placed.its.params q ∙ ap (λ m. m + 1) placing_is.one_each in (
        found.0,
        (
          found.1,
          alternative_true (signature_of p) s (its_placed.its.params ++ q ∷ []) ((qs ++ its_placed.new) ++ walked.more) (slice_index_or t.others found.0 [])
              (subst (λ m. IsTrue (list_all (literal_fits (signature_of p) m) (slice_index_or t.others found.0 []))) (sym size) (alternative_fits (signature_of p) (t.params + 1) t.others found.0 fit.others found.1))
              ∙ ap (λ xs. all_true s xs (slice_index_or t.others found.0 [])) (along_push its_placed.its.params q ((qs ++ its_placed.new) ++ walked.more) ∙ ap (λ xs. xs ++ i ∷ []) all_params)
              ∙ found.2,
        ),
      )

  early : (ns : List ℕ) × AllZip AllowedAt (free_places its_placed.its.params its_placed.its.width) ns
  early = zip_find AllowedAt (free_places its_placed.its.params its_placed.its.width)
      (λ q h.
      let free = free_is its_placed.its.params its_placed.its.width q h in
      let size = its_placed.size in
      let more = longer in
      allowed_at q (omega (arith, free.0)) (among_not its_placed.its.params q (turned (is_among its_placed.its.params q) free.1)))
    where
      turned : (b : Bool) → IsTrue (not b) → b ≡ false
      turned true h = cc
      turned false h = refl

  grown : its_placed.its.width ≤ walked.its.width
  grown = let a = its_placed.size in let b = walked.size in let c = longer in omega arith

  late : (ns : List ℕ) × AllZip AllowedAt (new_places its_placed.its.width walked.its.width) ns
  late = zip_find AllowedAt (new_places its_placed.its.width walked.its.width)
      (λ q h.
      let new = new_is its_placed.its.width walked.its.width q grown h in
      let size = walked.size in
      let from = new.0 in
      allowed_at q (omega (arith, new.1)) (λ at. let below = placing_is.below q at in absurd (omega arith)))

  -- ---- the guard
  guard_at : (n : ℕ) × (n < length t.guard) × IsTrue (all_true s processes (slice_index_or t.guard n []))
  guard_at = at_any s processes t.guard fires.guard

  pub chosen : Selection
  chosen = selection its_placed.its guard_at.0 early.0 walked.its late.0

  only_number : (xs ns : List ℕ) → AllZip AllowedAt xs ns → AllZip (λ q n. n < length t.others) xs ns
  only_number [] [] h = tt
  only_number [] (n ∷ ns) h = absurd h
  only_number (q ∷ xs) [] h = absurd h
  only_number (q ∷ xs) (n ∷ ns) h = (h.0.0, only_number xs ns h.1)

  only_ways : (us : List Term) (cs : List Choice) → AllZip WayAt us cs → AllZip (λ u c. Has (ways_of (update_of t.updates (target_of u)) u) c) us cs
  only_ways [] [] h = tt
  only_ways [] (c ∷ cs) h = absurd h
  only_ways (u ∷ us) [] h = absurd h
  only_ways (u ∷ us) (c ∷ cs) h = (h.0.inside, only_ways us cs h.1)

  pub chosen_is : IsSelection (signature_of p) t width (terms_in lits) chosen
  unfolding chosen
  chosen_is = record {
    placed = placing_in;
    guard = guard_at.1;
    others = only_number (free_places its_placed.its.params its_placed.its.width) early.0 early.1;
    plain = plain.0;
    ways = only_ways (terms_in lits) plain.0 plain.1;
    picked = subst (λ n. Has (pickings_at n) walked.its) its_placed.size walked.inside;
    late = only_number (new_places its_placed.its.width walked.its.width) late.0 late.1;
  }
    where
      pickings_at : ℕ → List Picking
      pickings_at n = pickings (signature_of p) t.updates its_placed.its.params n plain.0

  -- ---- everything it says is true
  permissions_true : (xs ns : List ℕ) → AllZip AllowedAt xs ns → IsTrue (all_true s ((qs ++ its_placed.new) ++ walked.more) (permissions t its_placed.its.params xs ns))
  permissions_true [] ns h = refl
  permissions_true (q ∷ xs) [] h = refl
  permissions_true (q ∷ xs) (n ∷ ns) h =
      true_both s ((qs ++ its_placed.new) ++ walked.more) (renamed_all (its_placed.its.params ++ q ∷ []) (slice_index_or t.others n [])) (permissions t its_placed.its.params xs ns) h.0.1 (permissions_true xs ns h.1)

  guard_true : IsTrue (all_true s ((qs ++ its_placed.new) ++ walked.more) (guard_lits t its_placed.its.params guard_at.0))
  guard_true =
      alternative_true (signature_of p) s its_placed.its.params ((qs ++ its_placed.new) ++ walked.more) (slice_index_or t.guard guard_at.0 [])
      (subst (λ m. IsTrue (list_all (literal_fits (signature_of p) m) (slice_index_or t.guard guard_at.0 []))) (sym placing_is.one_each) (alternative_fits (signature_of p) t.params t.guard guard_at.0 fit.guard guard_at.1))
      ∙ ap (λ xs. all_true s xs (slice_index_or t.guard guard_at.0 [])) all_params ∙ guard_at.2

  choice_true : (d : Choice) → Has walked.its.choices d → IsTrue (all_true s ((qs ++ its_placed.new) ++ walked.more) (choice_lits (signature_of p) t.updates its_placed.its.params d))
  choice_true d h =
      let one = zip_right (Walked p t its_placed.its.params updates_fit width s state processes pick fires.picks ((qs ++ its_placed.new) ++ walked.more)) plain.0 walked.its.choices d walked.each h in
      let other = zip_right WayAt (terms_in lits) plain.0 one.0 plain.1 one.1 in
      let is = ways_are (update_of t.updates (target_of other.0)) other.0 one.0 other.2.inside in
      let place = place_fits_wider width (length (qs ++ its_placed.new)) one.0.term base_wide (plain_fits one.0 one.1).place in
      let within = all_fits_within (signature_of p) (length (qs ++ its_placed.new)) (choice_lits (signature_of p) t.updates its_placed.its.params one.0)
      (choice_lits_fit p t.updates its_placed.its.params updates_fit (length (qs ++ its_placed.new)) base_inside one.0 place
      (subst (λ u. TakesWay (update_of t.updates (target_of u)) one.0) (sym is.term) is.way)) in
      ap (all_true s ((qs ++ its_placed.new) ++ walked.more)) one.2.lits
      ∙ agree_all_true s (length (qs ++ its_placed.new)) ((qs ++ its_placed.new) ++ walked.more) (qs ++ its_placed.new) (choice_lits (signature_of p) t.updates its_placed.its.params one.0) within
      (front_agrees (length (qs ++ its_placed.new)) (qs ++ its_placed.new) walked.more (omega arith))
      ∙ other.2.holds

  before_true : (l : Lit) → Has lits l → IsTrue (is_true s ((qs ++ its_placed.new) ++ walked.more) (literal_before (signature_of p) t.updates its_placed.its.params walked.its.choices l))
  unfolding chosen
  before_true l at =
      let own = all_member (literal_fits (signature_of p) width) lits l fits at in
      let places : List ℕ = (qs ++ its_placed.new) ++ walked.more in
      let more = longer in
      let wide = base_wide in
      let inside : All (λ q. q < length places) its_placed.its.params = has_all (λ q. q < length places) its_placed.its.params all_below in
      let each = λ (d : Choice) (h : Has walked.its.choices d). subst (λ n. ChoiceParts p n t.updates its_placed.its.params d) (sym walked.size) (parts_of p t fit width lits fits chosen chosen_is d h) in
      let agrees = λ (d : Choice) (h : Has walked.its.choices d).
      (let one = zip_right (Walked p t its_placed.its.params updates_fit width s state processes pick fires.picks places) plain.0 walked.its.choices d walked.each h in one.2.agrees) in
      let same = before_is_after p t.updates its_placed.its.params updates_fit s places state all_processes inside pick walked.its.choices width (omega arith) l own each
      (has_choices p t fit width lits fits chosen chosen_is l at) agrees (λ d h m. choice_true d h) qs (front_back l) in
      same ∙ ap (λ xs. is_true (fired s xs t.updates pick) qs l) all_params ∙ all_member (is_true (fired s processes t.updates pick) qs) lits l meets.holds at
    where
      front_back : (l : Lit) (q : ℕ) → q < width → slice_index qs q ≡ slice_index ((qs ++ its_placed.new) ++ walked.more) q
      front_back l q below =
          let size = meets.one_each in
          let wide = base_wide in
          sym (at_front (qs ++ its_placed.new) walked.more q (omega arith) ∙ at_front qs its_placed.new q (omega arith))

  chosen_met : Satisfies s ((qs ++ its_placed.new) ++ walked.more) chosen.picking.width (conjunction (signature_of p) t chosen lits)
  unfolding chosen
  chosen_met = record {
    one_each = walked.size;
    processes = all_processes;
    holds =
        let places : List ℕ = (qs ++ its_placed.new) ++ walked.more in
        let params = its_placed.its.params in
        let a = guard_lits t params guard_at.0 in
        let b = permissions t params (free_places params its_placed.its.width) early.0 in
        let c = flat_map (choice_lits (signature_of p) t.updates params) walked.its.choices in
        let d = permissions t params (new_places its_placed.its.width walked.its.width) late.0 in
        let e = map (literal_before (signature_of p) t.updates params walked.its.choices) lits in
        true_both s places a (b ++ (c ++ (d ++ e))) guard_true
        (true_both s places b (c ++ (d ++ e)) (permissions_true (free_places params its_placed.its.width) early.0 early.1)
        (true_both s places c (d ++ e) (flat_all s places (choice_lits (signature_of p) t.updates params) walked.its.choices choice_true)
        (true_both s places d e (permissions_true (new_places its_placed.its.width walked.its.width) late.0 late.1)
        (map_all s places (literal_before (signature_of p) t.updates params walked.its.choices) lits before_true))));
  }

  pub its_places : List ℕ
  its_places = (qs ++ its_placed.new) ++ walked.more

  pub met : Satisfies s its_places chosen.picking.width (conjunction (signature_of p) t chosen lits)
  unfolding its_places
  met = chosen_met
