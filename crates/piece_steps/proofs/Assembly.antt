-- All stages together: the steps give what the selections give.
use Rattle.std.proofs.Common.{◌≡◌, ◌⊎◌, ℕ, zero, suc, ◌+◌, ◌-◌, ◌≤◌, Bool, true, false, List, [], ◌∷◌, ◌++◌, length, refl, sym, ap, ◌∙◌, subst, arith, inl, inr, Option, None, Some}
use Rattle.std.specs.Prelude.{map, filter, not, ◌&&◌, nat_lt, if◌then◌else◌}
use Rattle.std.specs.List.{flat_map, range_with_len, AllZip}
use Rattle.std.proofs.lemmas.List.{append_assoc, length-map}
use Rattle.cub_base.specs.Numbered.{map_from}
use Rattle.cub_base.proofs.Bools.{less_is}
use Rattle.cub_base.proofs.Members.{Has, has_cases, map_has, flat_map_has}
use Rattle.cub_proto.specs.declared.literal.Sort.{Sort}
use Rattle.cub_proto.specs.declared.literal.Term.{Term}
use Rattle.cub_proto.specs.declared.literal.PSide.{PSide}
use Rattle.cub_proto.specs.declared.literal.Lit.{Lit}
use Rattle.cub_proto.specs.declared.literal.Value.{Value}
use Rattle.cub_proto.specs.declared.transition.Update.{Update}
use Rattle.cub_proto.specs.declared.transition.Transition.{Transition}
use Rattle.cub_proto.specs.Signature.{Signature, sort_of, constructors_of}
use Rattle.cub_proto.specs.Fits.{is_any}
use Rattle.cub_proto.specs.Effect.{update_of}
use Rattle.cub_cube.specs.Normal.{normal_form}
use Rattle.cub_cube.specs.Step.{target_of}
use Rattle.updates.specs.declared.choice.Choice.{Choice}
use Rattle.updates.specs.Ways.{numbers}
use Rattle.updates.specs.Chosen.{ways_of, lits_by, choice_lits, chosen_value, with_pick}
use Rattle.updates.specs.Through.{literal_before}
use Rattle.updates.proofs.Products.{product_has}
use Rattle.piece_choices.specs.declared.piece.Piece.{Piece}
use Rattle.piece_choices.specs.Placings.{Placing, is_among, placings, free_places, new_places}
use Rattle.piece_choices.specs.Picks.{Picking, picking, Pick, pick, values_for, picks_of, pickings}
use Rattle.piece_choices.specs.Selections.{Selection, selection, alternatives_at, ways_for, selections}
use Rattle.piece_choices.specs.Conjunction.{guard_lits, permissions, piece_by}
use Rattle.piece_choices.proofs.ListLemmas.{zip_length}
use Rattle.piece_choices.proofs.PlacingLemmas.{is_placing}
use Rattle.piece_choices.proofs.PickLemmas.{IsPicked, free, fixed, pickings_are}
use Rattle.piece_steps.specs.Steps.{Draft, Step, Guard, Other, Choose, Late, guarded, leaf, run, way_steps, steps_of, first_draft}
use Rattle.piece_steps.proofs.Bridging.{flat_map_same, flat_map-map, map-flat_map}
use Rattle.piece_steps.proofs.Stages.{permitted_all, asked, asked_all, others_stage, late_stage, param_stage}
use Rattle.piece_steps.proofs.WayStages.{all_chosen, ways_stage, all_picked, picks_stage}

-- ---- places that are no parameter, tested up to a greater number
filter_same : (f g : ℕ → Bool) (xs : List ℕ) → ((x : ℕ) → Has xs x → f x ≡ g x) → filter f xs ≡ filter g xs
filter_same f g [] same = refl
filter_same f g (x ∷ xs) same =
    ap (λ b. if b then x ∷ filter f xs else filter f xs) (same x (inl refl)) ∙ ap (λ ys. if g x then x ∷ ys else ys) (filter_same f g xs (λ y h. same y (inr h)))

none_left : (params : List ℕ) (inner from m : ℕ) → inner ≤ from → filter (λ q. nat_lt q inner && not (is_among params q)) (range_with_len from m) ≡ []
none_left params inner from zero h = refl
none_left params inner from (suc m) h =
    ap (λ b. if b && not (is_among params from) then from ∷ filter (λ q. nat_lt q inner && not (is_among params q)) (range_with_len (from + 1) m) else filter (λ q. nat_lt q inner && not (is_among params q)) (range_with_len (from + 1) m)) (not_less from inner h)
    ∙ none_left params inner (from + 1) m (omega arith)
  where
    not_less : (x y : ℕ) → y ≤ x → nat_lt x y ≡ false
    not_less x y h = grind (arith)

free_from : (params : List ℕ) (inner from m : ℕ) → inner ≤ from + m → filter (λ q. nat_lt q inner && not (is_among params q)) (range_with_len from m) ≡ filter (λ q. not (is_among params q)) (range_with_len from (inner - from))
free_from params inner from zero h = ap (λ n. filter (λ q. not (is_among params q)) (range_with_len from n)) (let e : 0 ≡ inner - from = omega arith in e)
free_from params inner from (suc m) h = by (nat_lt from inner) refl (free_from params inner (from + 1) m (omega arith))
  where
    rest : List ℕ
    rest = filter (λ q. nat_lt q inner && not (is_among params q)) (range_with_len (from + 1) m)

    by : (b : Bool) → nat_lt from inner ≡ b
        → filter (λ q. nat_lt q inner && not (is_among params q)) (range_with_len (from + 1) m) ≡ filter (λ q. not (is_among params q)) (range_with_len (from + 1) (inner - (from + 1)))
        → (if b && not (is_among params from) then from ∷ filter (λ q. nat_lt q inner && not (is_among params q)) (range_with_len (from + 1) m) else filter (λ q. nat_lt q inner && not (is_among params q)) (range_with_len (from + 1) m))
        ≡ filter (λ q. not (is_among params q)) (range_with_len from (inner - from))
    by true e go_on =
        let count : suc (inner - (from + 1)) ≡ inner - from = (let below = less_is from inner e in omega arith) in
        ap (λ ys. if not (is_among params from) then from ∷ ys else ys) go_on ∙ ap (λ n. filter (λ q. not (is_among params q)) (range_with_len from n)) count
    by false e go_on =
        let past : inner ≤ from = at_least from inner e in
        let none : 0 ≡ inner - from = omega arith in
        none_left params inner (from + 1) m (omega arith) ∙ ap (λ n. filter (λ q. not (is_among params q)) (range_with_len from n)) none
      where
        at_least : (x y : ℕ) → nat_lt x y ≡ false → y ≤ x
        at_least x y h = grind (arith)

-- ---- picks add at most one place each, and change no literals
values_few : (sig : Signature) (width : ℕ) (t : Term) (o : Option Sort) (x : Pick) → Has (values_for sig width t o) x → x.width ≤ width + 1
values_few sig width t (Some (Sort.Fin k)) x h =
    let found = map_has (λ c. pick width (Value.Con c)) (range_with_len 0 (constructors_of sig (Sort.Fin k))) x h in subst (λ y. y.width ≤ width + 1) found.2 (omega arith)
values_few sig width (Term.Global g) (Some Sort.Proc) x (inl same) = subst (λ y. y.width ≤ width + 1) same (omega arith)
values_few sig width (Term.Global g) (Some Sort.Proc) x (inr later) = by (has_cases (map (λ q. pick width (Value.Proc (PSide.Place q))) (range_with_len 0 width)) (pick (width + 1) (Value.Proc (PSide.Place width)) ∷ []) x later)
  where
    by : Has (map (λ q. pick width (Value.Proc (PSide.Place q))) (range_with_len 0 width)) x ⊎ Has (pick (width + 1) (Value.Proc (PSide.Place width)) ∷ []) x → x.width ≤ width + 1
    by (inl at) = let found = map_has (λ q. pick width (Value.Proc (PSide.Place q))) (range_with_len 0 width) x at in subst (λ y. y.width ≤ width + 1) found.2 (omega arith)
    by (inr (inl same)) = subst (λ y. y.width ≤ width + 1) same (omega arith)
    by (inr (inr none)) = absurd none
values_few sig width (Term.Cell a q) (Some Sort.Proc) x none = absurd none
values_few sig width t (Some Sort.Int) x none = absurd none
values_few sig width t None x none = absurd none

picks_few : (sig : Signature) (updates : List Update) (params : List ℕ) (width : ℕ) (c : Choice) (x : Picking) → Has (picks_of sig updates params width c) x → x.width ≤ width + 1
picks_few sig updates params width c x h = by (is_any (chosen_value updates params c)) h
  where
    by : (b : Bool) → Has (if b then map (λ v. picking (with_pick c v.value ∷ []) v.width) (values_for sig width c.term (sort_of sig c.term)) else picking (c ∷ []) width ∷ []) x → x.width ≤ width + 1
    by true at =
        let found = map_has (λ v. picking (with_pick c v.value ∷ []) v.width) (values_for sig width c.term (sort_of sig c.term)) x at in
        subst (λ y. y.width ≤ width + 1) found.2 (values_few sig width c.term (sort_of sig c.term) found.0 found.1)
    by false (inl same) = subst (λ y. y.width ≤ width + 1) same (omega arith)
    by false (inr none) = absurd none

add_one : (a b c n : ℕ) → b ≤ a + 1 → c ≤ b + n → c ≤ a + suc n
add_one a b c n h k = omega arith

pickings_few : (sig : Signature) (updates : List Update) (params : List ℕ) (width : ℕ) (cs : List Choice) (x : Picking) → Has (pickings sig updates params width cs) x → x.width ≤ width + length cs
pickings_few sig updates params width [] x (inl same) = subst (λ y. y.width ≤ width + 0) same (omega arith)
pickings_few sig updates params width [] x (inr none) = absurd none
pickings_few sig updates params width (c ∷ cs) x h =
    let found = flat_map_has (λ first. map (λ rest. picking (first.choices ++ rest.choices) rest.width) (pickings sig updates params first.width cs)) (picks_of sig updates params width c) x h in
    let rest = map_has (λ rest. picking (found.0.choices ++ rest.choices) rest.width) (pickings sig updates params found.0.width cs) x found.2 in
    subst (λ y. y.width ≤ width + suc (length cs)) rest.2
    (add_one width found.0.width rest.0.width (length cs) (picks_few sig updates params width c found.0 found.1) (pickings_few sig updates params found.0.width cs rest.0 rest.1))

picked_lits : (sig : Signature) (updates : List Update) (params : List ℕ) (width : ℕ) (cs ds : List Choice) → AllZip (IsPicked sig updates params width) cs ds → flat_map (choice_lits sig updates params) ds ≡ flat_map (choice_lits sig updates params) cs
picked_lits sig updates params width [] [] h = refl
picked_lits sig updates params width [] (d ∷ ds) h = absurd h
picked_lits sig updates params width (c ∷ cs) [] h = absurd h
picked_lits sig updates params width (c ∷ cs) (d ∷ ds) h =
    ap (λ xs. xs ++ flat_map (choice_lits sig updates params) ds) (one c d h.0) ∙ ap (λ xs. choice_lits sig updates params c ++ xs) (picked_lits sig updates params width cs ds h.1)
  where
    one : (c d : Choice) → IsPicked sig updates params width c d → choice_lits sig updates params d ≡ choice_lits sig updates params c
    one c _ (free v e may) = by (update_of updates (target_of c.term))
      where
        by : (o : Option Update) → lits_by sig o params (with_pick c v) ≡ lits_by sig o params c
        by None = refl
        by (Some u) = refl
    one c _ (fixed e) = refl

module _ (sig : Signature) (number : ℕ) (t : Transition) (width : ℕ) (lits : List Lit) (terms : List Term) where
  abbrev P : Selection → Piece
  P x = piece_by sig number t lits x

  late_steps : List Step
  late_steps = map (λ j. Late j) (range_with_len 0 (length terms))

  abbrev pick_steps : List Step
  pick_steps = map (λ i. Choose i) (range_with_len 0 (length terms)) ++ map (λ j. Late j) (range_with_len 0 (length terms))

  abbrev term_steps : List Step
  term_steps = flat_map (λ xs. xs) (map_from (way_steps t) 0 terms) ++ pick_steps

  abbrev other_steps : List Step
  other_steps = map (λ q. Other q) (range_with_len 0 (width + t.params)) ++ term_steps

  abbrev of_late : Placing → ℕ → List ℕ → Picking → List Selection
  of_late pl g os pk = map (λ late. selection pl g os pk late) (alternatives_at t (new_places pl.width pk.width))

  abbrev of_picks : Placing → ℕ → List ℕ → List Choice → List Selection
  of_picks pl g os cs = flat_map (of_late pl g os) (pickings sig t.updates pl.params pl.width cs)

  abbrev of_ways : Placing → ℕ → List ℕ → List Selection
  of_ways pl g os = flat_map (of_picks pl g os) (ways_for t terms)

  abbrev of_others : Placing → ℕ → List Selection
  of_others pl g = flat_map (of_ways pl g) (alternatives_at t (free_places pl.params pl.width))

  abbrev of_guard : Placing → List Selection
  of_guard pl = flat_map (of_others pl) (numbers t.guard)

  abbrev early_lits : Placing → ℕ → List ℕ → List Lit
  early_lits pl g os = guard_lits t pl.params g ++ permissions t pl.params (free_places pl.params pl.width) os

  -- the draft after the universal guard, after the ways, after the picks
  abbrev asked_draft : Placing → ℕ → List ℕ → Draft
  asked_draft pl g os = permitted_all t (guarded t (record (first_draft width terms) { params = pl.params; inner = pl.width; width = pl.width }) g) (free_places pl.params pl.width) os

  abbrev went_draft : Placing → ℕ → List ℕ → List Choice → Draft
  went_draft pl g os cs = all_chosen sig number t width lits (asked_draft pl g os) [] cs

  abbrev picked_draft : Placing → ℕ → List ℕ → List Choice → Picking → Draft
  picked_draft pl g os cs pk = all_picked sig number t width lits (went_draft pl g os cs) [] pk

  four : (a b c d e : List Lit) → (((a ++ b) ++ c) ++ d) ++ e ≡ a ++ (b ++ (c ++ (d ++ e)))
  four a b c d e = append_assoc ((a ++ b) ++ c) d e ∙ append_assoc (a ++ b) c (d ++ e) ∙ append_assoc a b (c ++ (d ++ e))

  leaf_is : (pl : Placing) (g : ℕ) (os ns : List ℕ) (cs : List Choice) (pk : Picking) → flat_map (choice_lits sig t.updates pl.params) pk.choices ≡ flat_map (choice_lits sig t.updates pl.params) cs
      → leaf sig number t lits (permitted_all t (picked_draft pl g os cs pk) (new_places pl.width pk.width) ns) ≡ piece_by sig number t lits (selection pl g os pk ns)
  leaf_is pl g os ns cs pk same =
      let a = guard_lits t pl.params g in
      let b = permissions t pl.params (free_places pl.params pl.width) os in
      let c = flat_map (choice_lits sig t.updates pl.params) cs in
      let d = permissions t pl.params (new_places pl.width pk.width) ns in
      let e = map (literal_before sig t.updates pl.params pk.choices) lits in
      ap with_lits (four a b c d e ∙ ap (λ xs. a ++ (b ++ (xs ++ (d ++ e)))) (sym same))
    where
      with_lits : List Lit → Piece
      with_lits ls = record {
        label = record { transition = number; params = pl.params; guard = g; others = os ++ ns; choices = pk.choices };
        cube = record { width = pk.width; lits = normal_form sig ls };
      }

  late_level : (pl : Placing) (g : ℕ) (os : List ℕ) (cs : List Choice) (pk : Picking) → length cs ≡ length terms → Has (pickings sig t.updates pl.params pl.width cs) pk
      → run sig number t width lits (map (λ j. Late j) (range_with_len 0 (length terms))) (picked_draft pl g os cs pk) ≡ map (piece_by sig number t lits) (of_late pl g os pk)
  late_level pl g os cs pk size at =
      let few = pickings_few sig t.updates pl.params pl.width cs pk at in
      let zero_plus : pl.width + 0 ≡ pl.width = omega arith in
      let same = picked_lits sig t.updates pl.params pk.width cs pk.choices (pickings_are sig t.updates pl.params pl.width cs pk at).each in
      late_stage sig number t width lits 0 (length terms) (picked_draft pl g os cs pk) (omega arith)
      ∙ ap (λ n. asked t (run sig number t width lits []) (range_with_len n (pk.width - n)) (picked_draft pl g os cs pk)) zero_plus
      ∙ asked_all t (run sig number t width lits []) (new_places pl.width pk.width) (picked_draft pl g os cs pk)
      ∙ flat_map_same (λ ns. run sig number t width lits [] (permitted_all t (picked_draft pl g os cs pk) (new_places pl.width pk.width) ns)) (λ ns. piece_by sig number t lits (selection pl g os pk ns) ∷ []) (alternatives_at t (new_places pl.width pk.width))
      (λ ns h. ap (λ y. y ∷ []) (leaf_is pl g os ns cs pk same))
      ∙ sym (map_map (alternatives_at t (new_places pl.width pk.width)))
    where
      map_map : (xs : List (List ℕ)) → map (piece_by sig number t lits) (map (λ late. selection pl g os pk late) xs) ≡ flat_map (λ ns. piece_by sig number t lits (selection pl g os pk ns) ∷ []) xs
      map_map [] = refl
      map_map (x ∷ xs) = ap (λ ys. piece_by sig number t lits (selection pl g os pk x) ∷ ys) (map_map xs)

  picks_level : (pl : Placing) (g : ℕ) (os : List ℕ) (cs : List Choice) → length cs ≡ length terms
      → run sig number t width lits pick_steps (went_draft pl g os cs) ≡ map (piece_by sig number t lits) (of_picks pl g os cs)
  picks_level pl g os cs size =
      ap (λ n. run sig number t width lits (map (λ i. Choose i) (range_with_len 0 n) ++ map (λ j. Late j) (range_with_len 0 (length terms))) (went_draft pl g os cs)) (sym size)
      ∙ picks_stage sig number t width lits (map (λ j. Late j) (range_with_len 0 (length terms))) cs [] (went_draft pl g os cs)
      ∙ flat_map_same (λ pk. run sig number t width lits (map (λ j. Late j) (range_with_len 0 (length terms))) (picked_draft pl g os cs pk)) (λ pk. map (piece_by sig number t lits) (of_late pl g os pk)) (pickings sig t.updates pl.params pl.width cs)
      (λ pk h. late_level pl g os cs pk size h)
      ∙ sym (map-flat_map (piece_by sig number t lits) (of_late pl g os) (pickings sig t.updates pl.params pl.width cs))

  ways_level : (pl : Placing) (g : ℕ) (os : List ℕ) → run sig number t width lits term_steps (asked_draft pl g os) ≡ map (piece_by sig number t lits) (of_ways pl g os)
  ways_level pl g os =
      ways_stage sig number t width lits pick_steps terms [] (asked_draft pl g os)
      ∙ flat_map_same (λ cs. run sig number t width lits pick_steps (went_draft pl g os cs)) (λ cs. map (piece_by sig number t lits) (of_picks pl g os cs)) (ways_for t terms)
      (λ cs h. picks_level pl g os cs (sym (zip_length Has (map (λ u. ways_of (update_of t.updates (target_of u)) u) terms) cs (product_has (map (λ u. ways_of (update_of t.updates (target_of u)) u) terms) cs h)) ∙ length-map terms (λ u. ways_of (update_of t.updates (target_of u)) u)))
      ∙ sym (map-flat_map (piece_by sig number t lits) (of_picks pl g os) (ways_for t terms))

  others_level : (pl : Placing) (g : ℕ) → pl.width ≤ width + t.params
      → run sig number t width lits other_steps (guarded t (record (first_draft width terms) { params = pl.params; inner = pl.width; width = pl.width }) g) ≡ map (piece_by sig number t lits) (of_others pl g)
  others_level pl g few =
      let d : Draft = guarded t (record (first_draft width terms) { params = pl.params; inner = pl.width; width = pl.width }) g in
      let all : filter (λ q. nat_lt q pl.width && not (is_among pl.params q)) (range_with_len 0 (width + t.params)) ≡ free_places pl.params pl.width =
      free_from pl.params pl.width 0 (width + t.params) (omega arith) ∙ ap (λ n. filter (λ q. not (is_among pl.params q)) (range_with_len 0 n)) (let z : pl.width - 0 ≡ pl.width = omega arith in z) in
      others_stage sig number t width lits term_steps 0 (width + t.params) d
      ∙ ap (λ qs. asked t (run sig number t width lits term_steps) qs d) all
      ∙ asked_all t (run sig number t width lits term_steps) (free_places pl.params pl.width) d
      ∙ flat_map_same (λ os. run sig number t width lits term_steps (asked_draft pl g os)) (λ os. map (piece_by sig number t lits) (of_ways pl g os)) (alternatives_at t (free_places pl.params pl.width)) (λ os h. ways_level pl g os)
      ∙ sym (map-flat_map (piece_by sig number t lits) (of_ways pl g) (alternatives_at t (free_places pl.params pl.width)))

  guard_level : (pl : Placing) → pl.width ≤ width + t.params
      → run sig number t width lits (Guard ∷ other_steps) (record (first_draft width terms) { params = pl.params; inner = pl.width; width = pl.width }) ≡ map (piece_by sig number t lits) (of_guard pl)
  guard_level pl few =
      flat_map-map (run sig number t width lits other_steps) (guarded t (record (first_draft width terms) { params = pl.params; inner = pl.width; width = pl.width })) (numbers t.guard)
      ∙ flat_map_same (λ g. run sig number t width lits other_steps (guarded t (record (first_draft width terms) { params = pl.params; inner = pl.width; width = pl.width }) g)) (λ g. map (piece_by sig number t lits) (of_others pl g)) (numbers t.guard) (λ g h. others_level pl g few)
      ∙ sym (map-flat_map (piece_by sig number t lits) (of_others pl) (numbers t.guard))

  pub steps_give : run sig number t width lits (steps_of t width terms) (first_draft width terms) ≡ map (piece_by sig number t lits) (selections sig t width terms)
  steps_give =
      param_stage sig number t width lits (Guard ∷ other_steps) t.params (first_draft width terms) refl
      ∙ flat_map_same (λ pl. run sig number t width lits (Guard ∷ other_steps) (record (first_draft width terms) { params = pl.params; inner = pl.width; width = pl.width })) (λ pl. map (piece_by sig number t lits) (of_guard pl)) (placings width t.params)
      (λ pl h. guard_level pl (is_placing width t.params pl h).few)
      ∙ sym (map-flat_map (piece_by sig number t lits) of_guard (placings width t.params))
