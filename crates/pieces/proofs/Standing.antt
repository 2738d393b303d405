-- What holds of a draft holds of each draft that a step gives.
use Rattle.std.proofs.Common.{◌≡◌, ◌⊎◌, ℕ, zero, suc, ◌+◌, ◌≤◌, Bool, true, false, List, [], ◌∷◌, ◌++◌, length, Option, Some, None, refl, sym, ap, ◌∙◌, subst, arith, inl, inr}
use Rattle.std.specs.Prelude.{map, not, ◌&&◌, nat_lt, if◌then◌else◌, IsTrue, slice_index_or, slice_set}
use Rattle.std.specs.List.{flat_map, list_all, range_with_len}
use Rattle.std.specs.Option.{option_map_or}
use Rattle.cub_base.proofs.Bools.{and_right, and_both, same_is}
use Rattle.cub_base.proofs.Members.{Has, has_Contains, contains_Has, has_cases, map_has, flat_map_has, has_flat_map}
use Rattle.cub_proto.specs.declared.literal.Sort.{Sort}
use Rattle.cub_proto.specs.declared.literal.Term.{Term}
use Rattle.cub_proto.specs.declared.literal.Lit.{Lit}
use Rattle.cub_proto.specs.declared.transition.Update.{Update}
use Rattle.cub_proto.specs.declared.protocol.Protocol.{Protocol}
use Rattle.cub_proto.specs.Signature.{Signature, sort_of, target_sort, is_sort}
use Rattle.cub_proto.specs.StateOf.{signature_of}
use Rattle.cub_proto.specs.Fits.{is_bounded, greatest_bound, is_any, update_fits, takes_any, picks_process}
use Rattle.cub_proto.specs.Effect.{update_of}
use Rattle.cub_proto.specs.Negation.{negated}
use Rattle.cub_cube.specs.Mentions.{terms_in}
use Rattle.cub_cube.specs.Rename.{renamed, renamed_all}
use Rattle.cub_cube.specs.Replace.{constant}
use Rattle.cub_cube.specs.Step.{target_of}
use Rattle.theory_laws.specs.Fitting.{greatest_size}
use Rattle.updates.specs.declared.choice.Choice.{Choice}
use Rattle.updates.specs.Ways.{numbers, way, way_value, condition}
use Rattle.updates.specs.Chosen.{reading_places, choice, value_by, chosen_value, with_pick}
use Rattle.updates.proofs.Fitting.{term_update, found_update, renamed_any, target_sort_is}
use Rattle.piece_choices.specs.Placings.{is_among}
use Rattle.piece_choices.specs.Picks.{values_for}
use Rattle.piece_choices.specs.Conjunction.{guard_lits}
use Rattle.piece_choices.proofs.Fitting.{TransitionFits, its_transition}
use Rattle.piece_choices.proofs.Limits.{all_append, all_wider, renamed_bounded, negated_bounded, alternative_bounded, condition_bounded, item_bounded}
use Rattle.piece_choices.proofs.Widths.{values_grow, any_branch}
use Rattle.piece_steps.specs.Steps.{Draft, Step, Param, Guard, Other, Branch, Fail, Choose, Late, choice_at, at_place, at_new_place, guarded, permitted, branched, failed, picked, branches_by, fails_by, extend, run}
use Rattle.piece_steps.specs.DraftFits.{params_in, DraftFits}
use Rattle.piece_steps.proofs.Pruning.{stays}
use Rattle.pieces.specs.Jobs.{Search, can_pick, new_in, behind, is_step_within, Stands}

-- ---- the terms of the choices
terms_set : (cs : List Choice) (i : ℕ) (c : Choice) → c.term ≡ (slice_index_or cs i (choice (Term.Global 0) (way 0 []))).term → map (λ d. d.term) (slice_set cs i c) ≡ map (λ d. d.term) cs
terms_set [] i c same = refl
terms_set (d ∷ ds) zero c same = ap (λ t. t ∷ map (λ e. e.term) ds) same
terms_set (d ∷ ds) (suc i) c same = ap (λ ts. d.term ∷ ts) (terms_set ds i c same)

term_is : (cs : List Choice) (ts : List Term) (i : ℕ) → map (λ d. d.term) cs ≡ ts → (slice_index_or cs i (choice (Term.Global 0) (way 0 []))).term ≡ slice_index_or ts i (Term.Global 0)
term_is [] [] i same = refl
term_is [] (t ∷ ts) i same = cc
term_is (d ∷ ds) [] i same = cc
term_is (d ∷ ds) (t ∷ ts) zero same = cc
term_is (d ∷ ds) (t ∷ ts) (suc i) same = term_is ds ts i (let rest : map (λ e. e.term) ds ≡ ts = cc in rest)

-- ---- a term that takes a new process can pick one
picks_new : (p : Protocol) (updates : List Update) (params : List ℕ) (c : Choice) → IsTrue (list_all (update_fits (signature_of p) (length params)) updates) → is_any (chosen_value updates params c) ≡ true → IsTrue (is_sort (sort_of (signature_of p) c.term) Sort.Proc)
    → IsTrue (can_pick (signature_of p) updates c.term)
picks_new p updates params c fit any sorted = by (update_of updates (target_of c.term)) refl any
  where
    by : (o : Option Update) → update_of updates (target_of c.term) ≡ o → is_any (value_by o params c) ≡ true → IsTrue (option_map_or (picks_process (signature_of p)) o false)
    by None e h = cc
    by (Some u) e h =
        let found = found_update (signature_of p) (length params) updates (target_of c.term) u fit e in
        let proc : IsTrue (is_sort (target_sort (signature_of p) u.target) Sort.Proc) =
        ap (λ x. is_sort (target_sort (signature_of p) x) Sort.Proc) found.1 ∙ ap (λ o. is_sort o Sort.Proc) (target_sort_is (signature_of p) c.term) ∙ sorted in
        let takes : IsTrue (takes_any u) = any_branch u.branches u.last c.branch (sym (renamed_any (reading_places params c.term) (way_value u c.branch)) ∙ h) in
        and_both (is_sort (target_sort (signature_of p) u.target) Sort.Proc) (takes_any u) proc takes

-- ---- one step
record Next (j : Search) (step : Step) (rest : List Step) (d e : Draft) : Type 0 where
  narrow : e.width + new_in (signature_of j.protocol) j.transition.updates (terms_in j.cube.lits) rest ≤ d.width + new_in (signature_of j.protocol) j.transition.updates (terms_in j.cube.lits) (step ∷ rest)
  bounded : IsTrue (list_all (is_bounded greatest_size) e.lits)
  terms : map (λ c. c.term) e.choices ≡ map (λ c. c.term) d.choices

module _ (j : Search) (step : Step) (rest : List Step) (d : Draft) (bounded : IsTrue (list_all (is_bounded greatest_size) d.lits))
    (narrow : new_in (signature_of j.protocol) j.transition.updates (terms_in j.cube.lits) rest ≤ new_in (signature_of j.protocol) j.transition.updates (terms_in j.cube.lits) (step ∷ rest)) where
  same_next : Next j step rest d d
  same_next = record { narrow = omega arith; bounded = bounded; terms = refl }

  more_next : (e : Draft) (more : List Lit) → e.width ≡ d.width → e.lits ≡ d.lits ++ more → IsTrue (list_all (is_bounded greatest_size) more) → map (λ c. c.term) e.choices ≡ map (λ c. c.term) d.choices → Next j step rest d e
  more_next e more same lits own terms = record {
    narrow = omega arith;
    bounded = subst (λ ls. IsTrue (list_all (is_bounded greatest_size) ls)) (sym lits) (all_append (is_bounded greatest_size) d.lits more bounded own);
    terms = terms;
  }

  permitted_next : TransitionFits j.protocol j.transition → (q n : ℕ) → Next j step rest d (permitted j.transition d q n)
  permitted_next fit q n =
      more_next (permitted j.transition d q n) (renamed_all (d.params ++ q ∷ []) (slice_index_or j.transition.others n [])) refl refl
      (all_wider greatest_bound greatest_size (renamed_all (d.params ++ q ∷ []) (slice_index_or j.transition.others n [])) (omega arith)
      (renamed_bounded greatest_bound (d.params ++ q ∷ []) (slice_index_or j.transition.others n []) (alternative_bounded (signature_of j.protocol) (j.transition.params + 1) j.transition.others n fit.others)))
      refl

  some_next : TransitionFits j.protocol j.transition → (e : Draft) (q : ℕ) (b : Bool) → Has (if b then map (permitted j.transition d q) (numbers j.transition.others) else d ∷ []) e → Next j step rest d e
  some_next fit e q true h = let found = map_has (permitted j.transition d q) (numbers j.transition.others) e h in subst (Next j step rest d) found.2 (permitted_next fit q found.0)
  some_next fit e q false (inl same) = subst (Next j step rest d) same same_next
  some_next fit e q false (inr none) = absurd none

module _ (j : Search) (fit : TransitionFits j.protocol j.transition) where
  abbrev sig : Signature
  sig = signature_of j.protocol

  updates_fit : (d : Draft) → length d.params ≡ j.transition.params → IsTrue (list_all (update_fits (signature_of j.protocol) (length d.params)) j.transition.updates)
  updates_fit d size = subst (λ n. IsTrue (list_all (update_fits (signature_of j.protocol) n) j.transition.updates)) (sym size) fit.updates

  branches_next : (rest : List Step) (i : ℕ) (d e : Draft) → IsTrue (list_all (is_bounded greatest_size) d.lits) → length d.params ≡ j.transition.params
      → Has (branches_by (update_of j.transition.updates (target_of (choice_at d i).term)) d i (choice_at d i)) e → Next j (Branch i) rest d e
  branches_next rest i d e bounded size h = by (update_of j.transition.updates (target_of (choice_at d i).term)) refl h
    where
      by : (o : Option Update) → update_of j.transition.updates (target_of (choice_at d i).term) ≡ o → Has (branches_by o d i (choice_at d i)) e → Next j (Branch i) rest d e
      by None is (inl same) = subst (Next j (Branch i) rest d) same (same_next j (Branch i) rest d bounded (omega arith))
      by None is (inr none) = absurd none
      by (Some u) is at =
          let own = choice_at d i in
          let r = reading_places d.params own.term in
          let found = map_has (branched d i own u) (range_with_len 0 (length u.branches + 1)) e at in
          let its = term_update (signature_of j.protocol) d.params j.transition.updates own.term u (updates_fit d size) is in
          subst (Next j (Branch i) rest d) found.2
          (more_next j (Branch i) rest d bounded (omega arith) (branched d i own u found.0) (renamed_all r (condition u.branches found.0)) refl refl
          (all_wider greatest_bound greatest_size (renamed_all r (condition u.branches found.0)) (omega arith)
          (renamed_bounded greatest_bound r (condition u.branches found.0) (condition_bounded (signature_of j.protocol) (length r) its.sort u.branches found.0 its.branches)))
          (terms_set d.choices i (record own { branch = found.0 }) refl))

  fails_next : (rest : List Step) (i b : ℕ) (d e : Draft) → IsTrue (list_all (is_bounded greatest_size) d.lits) → length d.params ≡ j.transition.params
      → Has (fails_by (signature_of j.protocol) (update_of j.transition.updates (target_of (choice_at d i).term)) d i b (choice_at d i)) e → Next j (Fail i b) rest d e
  fails_next rest i b d e bounded size h = by (update_of j.transition.updates (target_of (choice_at d i).term)) refl h
    where
      by : (o : Option Update) → update_of j.transition.updates (target_of (choice_at d i).term) ≡ o → Has (fails_by (signature_of j.protocol) o d i b (choice_at d i)) e → Next j (Fail i b) rest d e
      by None is (inl same) = subst (Next j (Fail i b) rest d) same (same_next j (Fail i b) rest d bounded (omega arith))
      by None is (inr none) = absurd none
      by (Some u) is at = split (nat_lt b (choice_at d i).branch) at
        where
          split : (x : Bool) → Has (if x then map (failed (signature_of j.protocol) d i (choice_at d i) (condition u.branches b)) (numbers (condition u.branches b)) else d ∷ []) e → Next j (Fail i b) rest d e
          split true at =
              let own = choice_at d i in
              let sig = signature_of j.protocol in
              let r = reading_places d.params own.term in
              let cond = condition u.branches b in
              let found = map_has (failed sig d i own cond) (numbers cond) e at in
              let its = term_update sig d.params j.transition.updates own.term u (updates_fit d size) is in
              let l : Lit = slice_index_or cond found.0 (constant true) in
              let l_small = negated_bounded sig greatest_bound l (item_bounded greatest_bound cond found.0 (condition_bounded sig (length r) its.sort u.branches b its.branches)) in
              subst (Next j (Fail i b) rest d) found.2
              (more_next j (Fail i b) rest d bounded (omega arith) (failed sig d i own cond found.0) (renamed r (negated sig l) ∷ []) refl refl
              (all_wider (greatest_bound + 1) greatest_size (renamed r (negated sig l) ∷ []) (omega arith)
              (renamed_bounded (greatest_bound + 1) r (negated sig l ∷ []) (and_both (is_bounded (greatest_bound + 1) (negated sig l)) true l_small refl)))
              (terms_set d.choices i (record own { fails = own.fails ++ found.0 ∷ [] }) refl))
          split false (inl same) = subst (Next j (Fail i b) rest d) same (same_next j (Fail i b) rest d bounded (omega arith))
          split false (inr none) = absurd none

  picks_next : (rest : List Step) (i : ℕ) (d e : Draft) → IsTrue (list_all (is_bounded greatest_size) d.lits) → length d.params ≡ j.transition.params → map (λ c. c.term) d.choices ≡ terms_in j.cube.lits
      → Has (extend (signature_of j.protocol) j.transition j.cube.width (Choose i) d) e → Next j (Choose i) rest d e
  picks_next rest i d e bounded size terms h = by (is_any (chosen_value j.transition.updates d.params (choice_at d i))) refl h
    where
      more : ℕ
      more = if can_pick (signature_of j.protocol) j.transition.updates (slice_index_or (terms_in j.cube.lits) i (Term.Global 0)) then 1 else 0

      enough : is_any (chosen_value j.transition.updates d.params (choice_at d i)) ≡ true → (b : Bool) → is_sort (sort_of (signature_of j.protocol) (choice_at d i).term) Sort.Proc ≡ b
          → (if b then 1 else 0) ≤ (if can_pick (signature_of j.protocol) j.transition.updates (slice_index_or (terms_in j.cube.lits) i (Term.Global 0)) then 1 else 0)
      enough any true sorted =
          let can = picks_new j.protocol j.transition.updates d.params (choice_at d i) (updates_fit d size) any sorted in
          let here = subst (λ u. IsTrue (can_pick (signature_of j.protocol) j.transition.updates u)) (term_is d.choices (terms_in j.cube.lits) i terms) can in
          subst (λ x. 1 ≤ (if x then 1 else 0)) (sym here) (omega arith)
      enough any false sorted = omega arith

      by : (b : Bool) → is_any (chosen_value j.transition.updates d.params (choice_at d i)) ≡ b
          → Has (if b then map (picked d i (choice_at d i)) (values_for (signature_of j.protocol) d.width (choice_at d i).term (sort_of (signature_of j.protocol) (choice_at d i).term)) else d ∷ []) e → Next j (Choose i) rest d e
      by true any at =
          let own = choice_at d i in
          let o = sort_of (signature_of j.protocol) own.term in
          let found = map_has (picked d i own) (values_for (signature_of j.protocol) d.width own.term o) e at in
          let grown = values_grow (signature_of j.protocol) d.width own.term o found.0 found.1 in
          let room = enough any (is_sort o Sort.Proc) refl in
          subst (Next j (Choose i) rest d) found.2
          (record {
            narrow = omega (arith, grown, room);
            bounded = bounded;
            terms = terms_set d.choices i (with_pick own found.0.value) refl;
          })
      by false any (inl same) = subst (Next j (Choose i) rest d) same (same_next j (Choose i) rest d bounded (omega arith))
      by false any (inr none) = absurd none

  places_next : (rest : List Step) (d e : Draft) → DraftFits j.protocol j.cube j.transition (Param ∷ rest) d → IsTrue (list_all (is_bounded greatest_size) d.lits)
      → Has (extend (signature_of j.protocol) j.transition j.cube.width Param d) e → Next j Param rest d e
  places_next rest d e fits bounded h = by (has_cases (flat_map old (range_with_len 0 j.cube.width)) (at_new_place d ∷ []) e h)
    where
      old : ℕ → List Draft
      old q = if is_among d.params q then [] else at_place d q ∷ []

      by : Has (flat_map old (range_with_len 0 j.cube.width)) e ⊎ Has (at_new_place d ∷ []) e → Next j Param rest d e
      by (inl at) =
          let found = flat_map_has old (range_with_len 0 j.cube.width) e at in split found.0 (is_among d.params found.0) found.2
        where
          split : (q : ℕ) (b : Bool) → Has (if b then [] else at_place d q ∷ []) e → Next j Param rest d e
          split q true none = absurd none
          split q false (inl same) = subst (Next j Param rest d) same (record { narrow = omega arith; bounded = bounded; terms = refl })
          split q false (inr none) = absurd none
      by (inr (inl same)) =
          let begin = fits.begins (omega arith) in
          let own = begin.1 in
          subst (Next j Param rest d) same (record { narrow = omega (arith, own); bounded = bounded; terms = refl })
      by (inr (inr none)) = absurd none

all_chosen : (j : Search) (step : Step) (rest : List Step) (d : Draft) → params_in (step ∷ rest) ≡ 0 → DraftFits j.protocol j.cube j.transition (step ∷ rest) d → length d.params ≡ j.transition.params
all_chosen j step rest d none fits = let n = fits.count in omega arith

next : (j : Search) (step : Step) (rest : List Step) (d e : Draft) → Stands j (step ∷ rest) d → Has (extend (signature_of j.protocol) j.transition j.cube.width step d) e → Next j step rest d e
next j Param rest d e stands h = places_next j (its_transition j.protocol j.number j.transition stands.job.its) rest d e stands.fits stands.bounded h
next j Guard rest d e stands h =
    let fit = its_transition j.protocol j.number j.transition stands.job.its in
    let found = map_has (guarded j.transition d) (numbers j.transition.guard) e h in
    subst (Next j Guard rest d) found.2
    (more_next j Guard rest d stands.bounded (omega arith) (guarded j.transition d found.0) (guard_lits j.transition d.params found.0) refl refl
    (all_wider greatest_bound greatest_size (guard_lits j.transition d.params found.0) (omega arith)
    (renamed_bounded greatest_bound d.params (slice_index_or j.transition.guard found.0 []) (alternative_bounded (signature_of j.protocol) j.transition.params j.transition.guard found.0 fit.guard)))
    refl)
next j (Other q) rest d e stands h =
    some_next j (Other q) rest d stands.bounded (omega arith) (its_transition j.protocol j.number j.transition stands.job.its) e q (nat_lt q d.inner && not (is_among d.params q)) h
next j (Late m) rest d e stands h =
    some_next j (Late m) rest d stands.bounded (omega arith) (its_transition j.protocol j.number j.transition stands.job.its) e (d.inner + m) (nat_lt (d.inner + m) d.width) h
next j (Branch i) rest d e stands h =
    branches_next j (its_transition j.protocol j.number j.transition stands.job.its) rest i d e stands.bounded (all_chosen j (Branch i) rest d (same_is (params_in rest) 0 stands.fits.first) stands.fits) h
next j (Fail i b) rest d e stands h =
    fails_next j (its_transition j.protocol j.number j.transition stands.job.its) rest i b d e stands.bounded (all_chosen j (Fail i b) rest d (same_is (params_in rest) 0 stands.fits.first) stands.fits) h
next j (Choose i) rest d e stands h =
    picks_next j (its_transition j.protocol j.number j.transition stands.job.its) rest i d e stands.bounded (all_chosen j (Choose i) rest d (same_is (params_in rest) 0 stands.fits.first) stands.fits) stands.terms h

pub next_stands : (j : Search) (step : Step) (rest : List Step) (d e : Draft) → Stands j (step ∷ rest) d → Has (extend (signature_of j.protocol) j.transition j.cube.width step d) e → Stands j rest e
next_stands j step rest d e stands h =
    let fit = its_transition j.protocol j.number j.transition stands.job.its in
    let after = next j step rest d e stands h in
    let room = stands.narrow in
    let less = after.narrow in
    record {
      job = stands.job;
      fits = (stays j.protocol j.cube j.transition fit step rest d e stands.fits h).fits;
      narrow = omega (arith, room, less);
      bounded = after.bounded;
      terms = after.terms ∙ stands.terms;
      within = and_right (is_step_within (length (terms_in j.cube.lits)) step) (list_all (is_step_within (length (terms_in j.cube.lits))) rest) stands.within;
      leaves = λ x at.
          stands.leaves x
          (has_Contains (behind j (step ∷ rest) d) x
          (has_flat_map (run (signature_of j.protocol) j.number j.transition j.cube.width j.cube.lits rest) (extend (signature_of j.protocol) j.transition j.cube.width step d) e x h (contains_Has (behind j rest e) x at)));
    }
