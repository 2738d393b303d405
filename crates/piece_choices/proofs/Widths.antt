-- A piece has at most three places more than the cube: one for each parameter and for each process global that its
-- transition gives any value.
use Rattle.std.proofs.Common.{◌≡◌, ◌⊎◌, ℕ, suc, zero, ◌+◌, ◌≤◌, Bool, true, false, List, [], ◌∷◌, ◌++◌, length, Option, Some, None, refl, sym, ap, ◌∙◌, subst, arith, inl, inr}
use Rattle.std.specs.Prelude.{map, filter, ◌&&◌, ◌||◌, if◌then◌else◌, IsTrue, All, count_by, nat_le, slice_get, find}
use Rattle.std.specs.List.{list_all, list_any, range_with_len}
use Rattle.std.specs.Option.{option_map_or}
use Rattle.std.proofs.lemmas.List.{length-map}
use Rattle.std.proofs.lemmas.List.Sums.{length-filter, sum_by-cons}
use Rattle.cub_base.specs.Name.{is_declarable}
use Rattle.cub_proto.specs.declared.literal.Sort.{Sort}
use Rattle.cub_proto.specs.declared.literal.Term.{Term}
use Rattle.cub_proto.specs.declared.literal.PSide.{PSide}
use Rattle.cub_proto.specs.declared.literal.Value.{Value}
use Rattle.cub_proto.specs.declared.transition.Branch.{Branch}
use Rattle.cub_proto.specs.declared.transition.Target.{Target}
use Rattle.cub_proto.specs.declared.transition.Update.{Update}
use Rattle.cub_proto.specs.declared.transition.Transition.{Transition}
use Rattle.cub_proto.specs.declared.protocol.Protocol.{Protocol}
use Rattle.cub_proto.specs.Signature.{Signature, sort_of, target_sort, constructors_of, is_sort}
use Rattle.cub_proto.specs.StateOf.{signature_of}
use Rattle.cub_proto.specs.Fits.{literal_fits, update_fits, transition_fits, formula_fits, targets_rise, is_any, takes_any, picks_process}
use Rattle.cub_proto.specs.Effect.{update_of, same_target}
use Rattle.cub_proto.proofs.StateValues.{sort_is}
use Rattle.cub_cube.specs.declared.cube.Cube.{Cube}
use Rattle.cub_cube.specs.Mentions.{terms_in}
use Rattle.cub_cube.specs.Step.{target_of}
use Rattle.cub_base.proofs.Bools.{and_left, and_right, and_both, le_is}
use Rattle.cub_base.proofs.Members.{Has, has_map, map_has, flat_map_has, has_cases, Distinct}
use Rattle.cub_cube.proofs.Terms.{terms_in_rise}
use Rattle.updates.specs.declared.choice.Choice.{Choice}
use Rattle.updates.specs.Ways.{way_value}
use Rattle.updates.specs.Chosen.{reading_places, value_by, chosen_value, with_pick}
use Rattle.updates.proofs.Fitting.{renamed_any, target_sort_is, found_update}
use Rattle.piece_choices.specs.declared.piece.Piece.{Piece}
use Rattle.piece_choices.specs.Picks.{Picking, picking, Pick, pick, values_for, picks_of, pickings}
use Rattle.piece_choices.specs.Selections.{Selection}
use Rattle.piece_choices.specs.Pieces.{candidates}
use Rattle.piece_choices.proofs.ListLemmas.{filter_has, has_filter}
use Rattle.piece_choices.proofs.SelectionLemmas.{IsSelection}
use Rattle.piece_choices.proofs.Suiting.{process_term, same_value, its_terms, rising_distinct}
use Rattle.piece_choices.proofs.Fitting.{its_transition, placed, cube_narrow, updates_at}
use Rattle.piece_choices.proofs.Candidates.{candidate_is}

-- ---- what a pick adds to the width
-- the choice picks a process
abbrev grows : Signature → List Update → List ℕ → Choice → Bool
grows sig updates params c = is_any (chosen_value updates params c) && is_sort (sort_of sig c.term) Sort.Proc

abbrev one_if : Bool → ℕ
one_if b = if b then 1 else 0

pub values_grow : (sig : Signature) (width : ℕ) (t : Term) (o : Option Sort) (x : Pick) → Has (values_for sig width t o) x → x.width ≤ width + one_if (is_sort o Sort.Proc)
values_grow sig width t (Some (Sort.Fin k)) x h =
    let found = map_has (λ c. pick width (Value.Con c)) (range_with_len 0 (constructors_of sig (Sort.Fin k))) x h in
    subst (λ y. y.width ≤ width + 0) found.2 (omega arith)
values_grow sig width (Term.Global g) (Some Sort.Proc) x (inl same) = subst (λ y. y.width ≤ width + 1) same (omega arith)
values_grow sig width (Term.Global g) (Some Sort.Proc) x (inr later) = by (has_cases (map (λ q. pick width (Value.Proc (PSide.Place q))) (range_with_len 0 width)) (pick (width + 1) (Value.Proc (PSide.Place width)) ∷ []) x later)
  where
    by : Has (map (λ q. pick width (Value.Proc (PSide.Place q))) (range_with_len 0 width)) x ⊎ Has (pick (width + 1) (Value.Proc (PSide.Place width)) ∷ []) x → x.width ≤ width + 1
    by (inl at) = let found = map_has (λ q. pick width (Value.Proc (PSide.Place q))) (range_with_len 0 width) x at in subst (λ y. y.width ≤ width + 1) found.2 (omega arith)
    by (inr (inl same)) = subst (λ y. y.width ≤ width + 1) same (omega arith)
    by (inr (inr none)) = absurd none
values_grow sig width (Term.Cell a q) (Some Sort.Proc) x none = absurd none
values_grow sig width t (Some Sort.Int) x none = absurd none
values_grow sig width t None x none = absurd none

record OneGrows (sig : Signature) (updates : List Update) (params : List ℕ) (width : ℕ) (x : Picking) : Type 0 where
  its : Choice
  alone : x.choices ≡ its ∷ []
  grown : x.width ≤ width + one_if (grows sig updates params its)

picks_grow : (sig : Signature) (updates : List Update) (params : List ℕ) (width : ℕ) (c : Choice) (x : Picking) → Has (picks_of sig updates params width c) x → OneGrows sig updates params width x
picks_grow sig updates params width c x h = by (is_any (chosen_value updates params c)) refl h
  where
    by : (b : Bool) → is_any (chosen_value updates params c) ≡ b
        → Has (if b then map (λ v. picking (with_pick c v.value ∷ []) v.width) (values_for sig width c.term (sort_of sig c.term)) else picking (c ∷ []) width ∷ []) x → OneGrows sig updates params width x
    by true any at =
        let found = map_has (λ v. picking (with_pick c v.value ∷ []) v.width) (values_for sig width c.term (sort_of sig c.term)) x at in
        let grown = values_grow sig width c.term (sort_of sig c.term) found.0 found.1 in
        let same : is_any (chosen_value updates params (with_pick c found.0.value)) ≡ true = ap is_any (same_value updates params c found.0.value) ∙ any in
        subst (OneGrows sig updates params width) found.2
        (record { its = with_pick c found.0.value; alone = refl; grown = subst (λ b. found.0.width ≤ width + one_if (b && is_sort (sort_of sig c.term) Sort.Proc)) (sym same) grown })
    by false any (inl same) = subst (OneGrows sig updates params width) same (record { its = c; alone = refl; grown = omega arith })
    by false any (inr none) = absurd none

add_widths : (a b c x y z : ℕ) → b ≤ a + x → c ≤ b + y → z ≡ x + y → c ≤ a + z
add_widths a b c x y z h k e = omega arith

pickings_grow : (sig : Signature) (updates : List Update) (params : List ℕ) (width : ℕ) (cs : List Choice) (x : Picking) → Has (pickings sig updates params width cs) x → x.width ≤ width + count_by (grows sig updates params) x.choices
pickings_grow sig updates params width [] x (inl same) = subst (λ y. y.width ≤ width + count_by (grows sig updates params) y.choices) same (omega arith)
pickings_grow sig updates params width [] x (inr none) = absurd none
pickings_grow sig updates params width (c ∷ cs) x h =
    let found = flat_map_has (λ first. map (λ rest. picking (first.choices ++ rest.choices) rest.width) (pickings sig updates params first.width cs)) (picks_of sig updates params width c) x h in
    let rest = map_has (λ rest. picking (found.0.choices ++ rest.choices) rest.width) (pickings sig updates params found.0.width cs) x found.2 in
    let one = picks_grow sig updates params width c found.0 found.1 in
    let others = pickings_grow sig updates params found.0.width cs rest.0 rest.1 in
    let first = one.grown in
    subst (λ y. y.width ≤ width + count_by (grows sig updates params) y.choices) rest.2
    (subst (λ ds. rest.0.width ≤ width + count_by (grows sig updates params) (ds ++ rest.0.choices)) (sym one.alone)
    (add_widths width found.0.width rest.0.width (one_if (grows sig updates params one.its)) (count_by (grows sig updates params) rest.0.choices) (count_by (grows sig updates params) (one.its ∷ rest.0.choices)) first others
    (sum_by-cons (λ d. if grows sig updates params d then 1 else 0) one.its rest.0.choices)))

-- ---- distinct items of a list are no more than the list has
pub without : {A : Type 0} (ys : List A) (x : A) → Has ys x → List A
without [] x none = []
without (y ∷ ys) x (inl same) = ys
without (y ∷ ys) x (inr later) = y ∷ without ys x later

length-without : {A : Type 0} (ys : List A) (x : A) (h : Has ys x) → length ys ≡ suc (length (without ys x h))
unfolding without
length-without [] x none = absurd none
length-without (y ∷ ys) x (inl same) = refl
length-without (y ∷ ys) x (inr later) = ap suc (length-without ys x later)

still_has : {A : Type 0} (ys : List A) (x z : A) (h : Has ys x) → (x ≡ z → ⊥) → Has ys z → Has (without ys x h) z
unfolding without
still_has [] x z none differ at = absurd none
still_has (y ∷ ys) x z (inl same) differ (inl here) = absurd (differ (sym same ∙ here))
still_has (y ∷ ys) x z (inl same) differ (inr later) = later
still_has (y ∷ ys) x z (inr at) differ (inl here) = inl here
still_has (y ∷ ys) x z (inr at) differ (inr later) = inr (still_has ys x z at differ later)

pub no_more : {A : Type 0} (xs ys : List A) → Distinct xs → ((x : A) → Has xs x → Has ys x) → length xs ≤ length ys
no_more [] ys distinct inside = omega arith
no_more {A} (x ∷ xs) ys distinct inside =
    let at = inside x (inl refl) in
    let rest = no_more xs (without ys x at) distinct.1 (λ z h. still_has ys x z at (λ same. distinct.0 (subst (Has xs) (sym same) h)) (inside z (inr h))) in
    omega (arith, rest, length-without ys x at)

-- ---- the choices that pick a process, and the updates that can give any
pub find_has : {A : Type 0} (test : A → Bool) (xs : List A) (x : A) → find test xs ≡ Some x → Has xs x
find_has test [] x h = cc
find_has {A} test (y ∷ ys) x h = by (test y) h (find_has test ys x)
  where
    by : (b : Bool) → (if b then Some y else find test ys) ≡ Some x → (find test ys ≡ Some x → Has ys x) → Has (y ∷ ys) x
    by true e rest = let same : y ≡ x = cc in inl same
    by false e rest = inr (rest e)

pub any_branch : (branches : List Branch) (last : Value) (n : ℕ) → is_any (option_map_or (λ b. b.value) (slice_get branches n) last) ≡ true → (is_any last || list_any (λ b. is_any b.value) branches) ≡ true
any_branch [] last n h = ap (λ b. b || false) h
any_branch (b ∷ bs) last zero h = ap (λ x. is_any last || (x || list_any (λ y. is_any y.value) bs)) h ∙ by (is_any last)
  where
    by : (x : Bool) → (x || true) ≡ true
    by true = refl
    by false = refl
any_branch (b ∷ bs) last (suc n) h = by (is_any last) (is_any b.value) (list_any (λ y. is_any y.value) bs) (any_branch bs last n h)
  where
    by : (x y z : Bool) → (x || z) ≡ true → (x || (y || z)) ≡ true
    by true y z h = refl
    by false true z h = refl
    by false false z h = h

module _ (p : Protocol) (t : Transition) (params : List ℕ) (fit : IsTrue (list_all (update_fits (signature_of p) (length params)) t.updates)) where
  abbrev picking_targets : List Target
  picking_targets = map (λ u. u.target) (filter (picks_process (signature_of p)) t.updates)

  target_picks : (d : Choice) → IsTrue (grows (signature_of p) t.updates params d) → Has (map (λ u. u.target) (filter (picks_process (signature_of p)) t.updates)) (target_of d.term)
  target_picks d h = by (update_of t.updates (target_of d.term)) refl (and_left (is_any (chosen_value t.updates params d)) (is_sort (sort_of (signature_of p) d.term) Sort.Proc) h)
    where
      by : (o : Option Update) → update_of t.updates (target_of d.term) ≡ o → is_any (value_by o params d) ≡ true → Has (map (λ u. u.target) (filter (picks_process (signature_of p)) t.updates)) (target_of d.term)
      by None e any = cc
      by (Some u) e any =
          let found = found_update (signature_of p) (length params) t.updates (target_of d.term) u fit e in
          let sorted : IsTrue (is_sort (target_sort (signature_of p) u.target) Sort.Proc) =
          ap (λ x. is_sort (target_sort (signature_of p) x) Sort.Proc) found.1 ∙ ap (λ o. is_sort o Sort.Proc) (target_sort_is (signature_of p) d.term)
          ∙ and_right (is_any (chosen_value t.updates params d)) (is_sort (sort_of (signature_of p) d.term) Sort.Proc) h in
          let takes : IsTrue (takes_any u) = any_branch u.branches u.last d.branch (sym (renamed_any (reading_places params d.term) (way_value u d.branch)) ∙ any) in
          subst (Has (map (λ v. v.target) (filter (picks_process (signature_of p)) t.updates))) found.1
          (has_map (λ v. v.target) (filter (picks_process (signature_of p)) t.updates) u
          (has_filter (picks_process (signature_of p)) t.updates u (find_has (λ v. same_target v.target (target_of d.term)) t.updates u e)
          (and_both (is_sort (target_sort (signature_of p) u.target) Sort.Proc) (takes_any u) sorted takes)))

  one_target : (c d : Choice) → IsTrue (grows (signature_of p) t.updates params c) → IsTrue (grows (signature_of p) t.updates params d) → target_of c.term ≡ target_of d.term → c.term ≡ d.term
  one_target c d h k e =
      let first = process_term p c.term (sort_is (sort_of (signature_of p) c.term) Sort.Proc (and_right (is_any (chosen_value t.updates params c)) (is_sort (sort_of (signature_of p) c.term) Sort.Proc) h)) in
      let second = process_term p d.term (sort_is (sort_of (signature_of p) d.term) Sort.Proc (and_right (is_any (chosen_value t.updates params d)) (is_sort (sort_of (signature_of p) d.term) Sort.Proc) k)) in
      let targets : Target.Global first.0 ≡ Target.Global second.0 = ap target_of (sym first.1) ∙ e ∙ ap target_of second.1 in
      let same : first.0 ≡ second.0 = cc in
      first.1 ∙ ap (λ g. Term.Global g) same ∙ sym second.1

  targets_apart : (ds : List Choice) → Distinct (map (λ d. d.term) ds) → Distinct (map (λ d. target_of d.term) (filter (grows (signature_of p) t.updates params) ds))
  targets_apart [] h = tt
  targets_apart (d ∷ ds) h = by (grows (signature_of p) t.updates params d) refl (targets_apart ds h.1)
    where
      by : (b : Bool) → grows (signature_of p) t.updates params d ≡ b → Distinct (map (λ e. target_of e.term) (filter (grows (signature_of p) t.updates params) ds))
          → Distinct (map (λ e. target_of e.term) (if b then d ∷ filter (grows (signature_of p) t.updates params) ds else filter (grows (signature_of p) t.updates params) ds))
      by true own rest = (
        λ at.
            let found = map_has (λ e. target_of e.term) (filter (grows (signature_of p) t.updates params) ds) (target_of d.term) at in
            let its = filter_has (grows (signature_of p) t.updates params) ds found.0 found.1 in
            h.0 (subst (Has (map (λ e. e.term) ds)) (one_target found.0 d its.1 own found.2) (has_map (λ e. e.term) ds found.0 its.0)),
        rest,
      )
      by false own rest = rest

  few_grow : (ds : List Choice) → Distinct (map (λ d. d.term) ds) → count_by (grows (signature_of p) t.updates params) ds ≤ count_by (picks_process (signature_of p)) t.updates
  few_grow ds apart =
      let mine = filter (grows (signature_of p) t.updates params) ds in
      let theirs = filter (picks_process (signature_of p)) t.updates in
      let few = no_more (map (λ d. target_of d.term) mine) (map (λ u. u.target) theirs) (targets_apart ds apart)
      (λ x at.
      let found = map_has (λ d. target_of d.term) mine x at in
      let its = filter_has (grows (signature_of p) t.updates params) ds found.0 found.1 in
      subst (Has (map (λ u. u.target) theirs)) found.2 (target_picks found.0 its.1)) in
      omega (arith, few, length-map mine (λ d. target_of d.term), length-map theirs (λ u. u.target), length-filter (grows (signature_of p) t.updates params) ds, length-filter (picks_process (signature_of p)) t.updates)

pub transition_few : (p : Protocol) (number : ℕ) (t : Transition) → slice_get p.transitions number ≡ Some t → t.params + count_by (picks_process (signature_of p)) t.updates ≤ 3
transition_few p number t at = of_fit (found p.transitions number at p.transitions_fit)
  where
    found : (ts : List Transition) (n : ℕ) → slice_get ts n ≡ Some t → All (λ x. IsTrue (transition_fits (signature_of p) x)) ts → IsTrue (transition_fits (signature_of p) t)
    found [] n e all = cc
    found (x ∷ xs) zero e all = let same : x ≡ t = cc in subst (λ y. IsTrue (transition_fits (signature_of p) y)) same (all 0 x (omega arith))
    found (x ∷ xs) (suc n) e all = found xs n e (λ k d below. all (suc k) d (omega arith))

    of_fit : IsTrue (transition_fits (signature_of p) t) → t.params + count_by (picks_process (signature_of p)) t.updates ≤ 3
    of_fit h =
        let sig = signature_of p in
        let a = is_declarable t.name in
        let b = nat_le (t.params + count_by (picks_process sig) t.updates) 3 in
        let g = formula_fits sig t.params t.guard in
        let o = formula_fits sig (t.params + 1) t.others in
        let u = list_all (update_fits sig t.params) t.updates in
        le_is (t.params + count_by (picks_process sig) t.updates) 3
        (and_right a b (and_left (a && b) g (and_left (a && b && g) o (and_left (a && b && g && o) u (and_left (a && b && g && o && u) (targets_rise t.updates) h)))))

pub selection_few : (p : Protocol) (c : Cube) (fits : IsTrue (list_all (literal_fits (signature_of p) c.width) c.lits)) (number : ℕ) (t : Transition) → slice_get p.transitions number ≡ Some t
    → (x : Selection) → IsSelection (signature_of p) t c.width (terms_in c.lits) x → x.picking.width ≤ c.width + 3
selection_few p c fits number t at x is =
    let fit = its_transition p number t at in
    let own = placed p t fit c.width c.lits fits x is in
    let grown = pickings_grow (signature_of p) t.updates x.placing.params x.placing.width is.plain x.picking is.picked in
    let few = few_grow p t x.placing.params (updates_at p t fit c.width c.lits fits x is) x.picking.choices
    (subst Distinct (sym (its_terms (signature_of p) t c.width (terms_in c.lits) x is)) (rising_distinct (terms_in c.lits) (terms_in_rise c.lits))) in
    let most = transition_few p number t at in
    let first = own.few in
    omega arith

pub piece_wide : (p : Protocol) (c : Cube) (x : Piece) → IsTrue (list_all (literal_fits (signature_of p) c.width) c.lits) → Has (candidates p c) x → (c.width ≤ x.cube.width) × (x.cube.width ≤ c.width + 3)
piece_wide p c x fits h =
    let is = candidate_is p c x h in
    subst (λ y. (c.width ≤ y.cube.width) × (y.cube.width ≤ c.width + 3)) is.same
    (cube_narrow p is.transition (its_transition p is.number is.transition is.at) c.width c.lits fits is.selected is.is, selection_few p c fits is.number is.transition is.at is.selected is.is)
