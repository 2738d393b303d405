-- The first draft stands: it has room for all places that may come.
use Rattle.std.proofs.Common.{◌≡◌, ℕ, zero, suc, ◌+◌, ◌≤◌, Bool, true, false, List, [], ◌∷◌, ◌++◌, length, Option, Some, None, refl, sym, ap, ◌∙◌, subst, arith, inl, inr}
use Rattle.std.specs.Prelude.{map, filter, replicate, if◌then◌else◌, IsTrue, count_by, slice_get, slice_index_or}
use Rattle.std.specs.List.{flat_map, list_all, range_with_len}
use Rattle.std.specs.Option.{option_map_or}
use Rattle.std.proofs.lemmas.List.{length-map, append_assoc}
use Rattle.std.proofs.lemmas.List.Sums.{length-filter, sum_by-cons}
use Rattle.cub_base.specs.Numbered.{map_from}
use Rattle.cub_base.proofs.Bools.{and_left, and_right, and_both, is_less}
use Rattle.cub_base.proofs.Members.{Has, has_Contains, contains_Has, has_map, map_has, Distinct}
use Rattle.cub_proto.specs.declared.literal.Sort.{Sort}
use Rattle.cub_proto.specs.declared.literal.Term.{Term}
use Rattle.cub_proto.specs.declared.transition.Target.{Target}
use Rattle.cub_proto.specs.declared.transition.Update.{Update}
use Rattle.cub_proto.specs.declared.transition.Transition.{Transition}
use Rattle.cub_proto.specs.declared.protocol.Protocol.{Protocol}
use Rattle.cub_proto.specs.Signature.{Signature, sort_of, target_sort, is_sort}
use Rattle.cub_proto.specs.StateOf.{signature_of}
use Rattle.cub_proto.specs.Fits.{update_fits, takes_any, picks_process}
use Rattle.cub_proto.specs.Effect.{update_of, same_target}
use Rattle.cub_proto.proofs.StateValues.{sort_is}
use Rattle.cub_cube.specs.Mentions.{terms_in}
use Rattle.cub_cube.specs.Step.{target_of}
use Rattle.cub_cube.proofs.Terms.{terms_in_rise}
use Rattle.updates.specs.Ways.{way}
use Rattle.updates.specs.Chosen.{choice}
use Rattle.updates.proofs.Fitting.{found_update, target_sort_is}
use Rattle.updates.proofs.Products.{below_has}
use Rattle.piece_choices.specs.Pieces.{candidates_by, candidates}
use Rattle.piece_choices.proofs.ListLemmas.{filter_has, has_filter, has_map_from}
use Rattle.piece_choices.proofs.Suiting.{process_term, rising_distinct}
use Rattle.piece_choices.proofs.Fitting.{its_transition}
use Rattle.piece_choices.proofs.Widths.{no_more, find_has, transition_few}
use Rattle.piece_steps.specs.Steps.{Step, Param, Guard, Other, Branch, Fail, Choose, Late, way_steps, steps_of, first_draft}
use Rattle.piece_steps.proofs.Assembly.{steps_give}
use Rattle.piece_steps.proofs.Pruning.{first_fits}
use Rattle.pieces.specs.Jobs.{Search, is_step_within, can_pick, new_in, behind, IsJob, Stands}

-- ---- terms that take a new process: no more than the updates that can give one
module _ (p : Protocol) (t : Transition) (fit : IsTrue (list_all (update_fits (signature_of p) t.params) t.updates)) where
  -- the update of such a term
  target_picks : (u : Term) → IsTrue (can_pick (signature_of p) t.updates u) → Has (map (λ v. v.target) (filter (picks_process (signature_of p)) t.updates)) (target_of u)
  target_picks u h = by (update_of t.updates (target_of u)) refl h
    where
      by : (o : Option Update) → update_of t.updates (target_of u) ≡ o → IsTrue (option_map_or (picks_process (signature_of p)) o false) → Has (map (λ v. v.target) (filter (picks_process (signature_of p)) t.updates)) (target_of u)
      by None e none = cc
      by (Some v) e picks =
          let found = found_update (signature_of p) t.params t.updates (target_of u) v fit e in
          subst (Has (map (λ x. x.target) (filter (picks_process (signature_of p)) t.updates))) found.1
          (has_map (λ x. x.target) (filter (picks_process (signature_of p)) t.updates) v
          (has_filter (picks_process (signature_of p)) t.updates v (find_has (λ x. same_target x.target (target_of u)) t.updates v e) picks))

  -- it is a process global
  picks_proc : (u : Term) → IsTrue (can_pick (signature_of p) t.updates u) → sort_of (signature_of p) u ≡ Some Sort.Proc
  picks_proc u h = by (update_of t.updates (target_of u)) refl h
    where
      by : (o : Option Update) → update_of t.updates (target_of u) ≡ o → IsTrue (option_map_or (picks_process (signature_of p)) o false) → sort_of (signature_of p) u ≡ Some Sort.Proc
      by None e none = cc
      by (Some v) e picks =
          let found = found_update (signature_of p) t.params t.updates (target_of u) v fit e in
          let sorted = and_left (is_sort (target_sort (signature_of p) v.target) Sort.Proc) (takes_any v) picks in
          sort_is (sort_of (signature_of p) u) Sort.Proc
          (ap (λ o. is_sort o Sort.Proc) (sym (target_sort_is (signature_of p) u)) ∙ ap (λ x. is_sort (target_sort (signature_of p) x) Sort.Proc) (sym found.1) ∙ sorted)

  one_target : (u v : Term) → IsTrue (can_pick (signature_of p) t.updates u) → IsTrue (can_pick (signature_of p) t.updates v) → target_of u ≡ target_of v → u ≡ v
  one_target u v h k e =
      let first = process_term p u (picks_proc u h) in
      let second = process_term p v (picks_proc v k) in
      let targets : Target.Global first.0 ≡ Target.Global second.0 = ap target_of (sym first.1) ∙ e ∙ ap target_of second.1 in
      let same : first.0 ≡ second.0 = cc in
      first.1 ∙ ap (λ g. Term.Global g) same ∙ sym second.1

  targets_apart : (us : List Term) → Distinct us → Distinct (map target_of (filter (can_pick (signature_of p) t.updates) us))
  targets_apart [] h = tt
  targets_apart (u ∷ us) h = by (can_pick (signature_of p) t.updates u) refl (targets_apart us h.1)
    where
      by : (b : Bool) → can_pick (signature_of p) t.updates u ≡ b → Distinct (map target_of (filter (can_pick (signature_of p) t.updates) us))
          → Distinct (map target_of (if b then u ∷ filter (can_pick (signature_of p) t.updates) us else filter (can_pick (signature_of p) t.updates) us))
      by true own rest = (
        λ at.
            let found = map_has target_of (filter (can_pick (signature_of p) t.updates) us) (target_of u) at in
            let its = filter_has (can_pick (signature_of p) t.updates) us found.0 found.1 in
            h.0 (subst (Has us) (one_target found.0 u its.1 own found.2) its.0),
        rest,
      )
      by false own rest = rest

  pub few_pick : (us : List Term) → Distinct us → count_by (can_pick (signature_of p) t.updates) us ≤ count_by (picks_process (signature_of p)) t.updates
  few_pick us apart =
      let mine = filter (can_pick (signature_of p) t.updates) us in
      let theirs = filter (picks_process (signature_of p)) t.updates in
      let few = no_more (map target_of mine) (map (λ u. u.target) theirs) (targets_apart us apart)
      (λ x at.
      let found = map_has target_of mine x at in
      let its = filter_has (can_pick (signature_of p) t.updates) us found.0 found.1 in
      subst (Has (map (λ u. u.target) theirs)) found.2 (target_picks found.0 its.1)) in
      omega (arith, few, length-map mine target_of, length-map theirs (λ u. u.target), length-filter (can_pick (signature_of p) t.updates) us, length-filter (picks_process (signature_of p)) t.updates)

-- ---- the new places that the steps of a transition can bring
module _ (sig : Signature) (updates : List Update) (terms : List Term) where
  new_append : (xs ys : List Step) → new_in sig updates terms (xs ++ ys) ≡ new_in sig updates terms xs + new_in sig updates terms ys
  new_append [] ys = omega arith
  new_append (Param ∷ xs) ys = let rest = new_append xs ys in omega arith
  new_append (Guard ∷ xs) ys = new_append xs ys
  new_append (Other q ∷ xs) ys = new_append xs ys
  new_append (Branch i ∷ xs) ys = new_append xs ys
  new_append (Fail i b ∷ xs) ys = new_append xs ys
  new_append (Choose i ∷ xs) ys = let rest = new_append xs ys in omega arith
  new_append (Late j ∷ xs) ys = new_append xs ys

  new_params : (m : ℕ) → new_in sig updates terms (replicate m Param) ≡ m
  new_params zero = refl
  new_params (suc m) = let rest = new_params m in omega arith

  new_others : (from n : ℕ) → new_in sig updates terms (map (λ q. Other q) (range_with_len from n)) ≡ 0
  new_others from zero = refl
  new_others from (suc n) = new_others (from + 1) n

  new_fails : (i from n : ℕ) → new_in sig updates terms (map (Fail i) (range_with_len from n)) ≡ 0
  new_fails i from zero = refl
  new_fails i from (suc n) = new_fails i (from + 1) n

  new_lates : (from n : ℕ) → new_in sig updates terms (map (λ j. Late j) (range_with_len from n)) ≡ 0
  new_lates from zero = refl
  new_lates from (suc n) = new_lates (from + 1) n

  new_ways : (t : Transition) (i : ℕ) (us : List Term) → new_in sig updates terms (flat_map (λ xs. xs) (map_from (way_steps t) i us)) ≡ 0
  new_ways t i [] = refl
  new_ways t i (u ∷ us) =
      let parts = new_append (way_steps t i u) (flat_map (λ xs. xs) (map_from (way_steps t) (i + 1) us)) in
      let own = new_fails i 0 (option_map_or (λ v. length v.branches) (update_of t.updates (target_of u)) 0) in
      let rest = new_ways t (i + 1) us in
      omega (arith, parts, own, rest)

at_end : (xs ys : List Term) (y d : Term) → slice_index_or (xs ++ y ∷ ys) (length xs) d ≡ y
at_end [] ys y d = refl
at_end (x ∷ xs) ys y d = at_end xs ys y d

new_chooses : (sig : Signature) (updates : List Update) (front rest : List Term) → new_in sig updates (front ++ rest) (map (λ i. Choose i) (range_with_len (length front) (length rest))) ≡ count_by (can_pick sig updates) rest
new_chooses sig updates front [] = refl
new_chooses sig updates front (u ∷ us) =
    let one : Term → ℕ = λ x. if can_pick sig updates x then 1 else 0 in
    let here = ap one (at_end front us u (Term.Global 0)) in
    let moved : front ++ u ∷ us ≡ (front ++ u ∷ []) ++ us = sym (append_assoc front (u ∷ []) us) in
    let count : length (front ++ u ∷ []) ≡ length front + 1 = length_more front u in
    let later : new_in sig updates (front ++ u ∷ us) (map (λ i. Choose i) (range_with_len (length front + 1) (length us))) ≡ count_by (can_pick sig updates) us =
    ap (λ ts. new_in sig updates ts (map (λ i. Choose i) (range_with_len (length front + 1) (length us)))) moved
    ∙ ap (λ n. new_in sig updates ((front ++ u ∷ []) ++ us) (map (λ i. Choose i) (range_with_len n (length us)))) (sym count)
    ∙ new_chooses sig updates (front ++ u ∷ []) us in
    omega (arith, here, later, sum_by-cons one u us)
  where
    length_more : (xs : List Term) (x : Term) → length (xs ++ x ∷ []) ≡ length xs + 1
    length_more [] x = refl
    length_more (y ∷ ys) x = let rest = length_more ys x in omega arith

few_new : (p : Protocol) (number : ℕ) (t : Transition) (width : ℕ) (terms : List Term) → slice_get p.transitions number ≡ Some t → Distinct terms → new_in (signature_of p) t.updates terms (steps_of t width terms) ≤ 3
few_new p number t width terms at apart =
    let sig = signature_of p in
    let fit = its_transition p number t at in
    let lates = map (λ j. Late j) (range_with_len 0 (length terms)) in
    let chooses = map (λ i. Choose i) (range_with_len 0 (length terms)) in
    let ways = flat_map (λ xs. xs) (map_from (way_steps t) 0 terms) in
    let others = map (λ q. Other q) (range_with_len 0 (width + t.params)) in
    let a = new_append sig t.updates terms (replicate t.params Param) (Guard ∷ (others ++ (ways ++ (chooses ++ lates)))) in
    let b = new_append sig t.updates terms others (ways ++ (chooses ++ lates)) in
    let c = new_append sig t.updates terms ways (chooses ++ lates) in
    let d = new_append sig t.updates terms chooses lates in
    let e = new_params sig t.updates terms t.params in
    let f = new_others sig t.updates terms 0 (width + t.params) in
    let g = new_ways sig t.updates terms t 0 terms in
    let h = new_chooses sig t.updates [] terms in
    let i = new_lates sig t.updates terms 0 (length terms) in
    let few = few_pick p t fit.updates terms apart in
    let most = transition_few p number t at in
    omega (arith, a, b, c, d, e, f, g, h, i, few, most)

-- ---- the terms that the steps speak of
module _ (n : ℕ) where
  within_append : (xs ys : List Step) → IsTrue (list_all (is_step_within n) xs) → IsTrue (list_all (is_step_within n) ys) → IsTrue (list_all (is_step_within n) (xs ++ ys))
  within_append [] ys h k = k
  within_append (x ∷ xs) ys h k = and_both (is_step_within n x) (list_all (is_step_within n) (xs ++ ys)) (and_left (is_step_within n x) (list_all (is_step_within n) xs) h) (within_append xs ys (and_right (is_step_within n x) (list_all (is_step_within n) xs) h) k)

  within_map : {A : Type 0} (f : A → Step) (xs : List A) → ((x : A) → Has xs x → IsTrue (is_step_within n (f x))) → IsTrue (list_all (is_step_within n) (map f xs))
  within_map f [] each = refl
  within_map f (x ∷ xs) each = and_both (is_step_within n (f x)) (list_all (is_step_within n) (map f xs)) (each x (inl refl)) (within_map f xs (λ y h. each y (inr h)))

  within_params : (m : ℕ) → IsTrue (list_all (is_step_within n) (replicate m Param))
  within_params zero = refl
  within_params (suc m) = within_params m

  within_ways : (t : Transition) (i : ℕ) (us : List Term) → i + length us ≤ n → IsTrue (list_all (is_step_within n) (flat_map (λ xs. xs) (map_from (way_steps t) i us)))
  within_ways t i [] h = refl
  within_ways t i (u ∷ us) h =
      let count = option_map_or (λ v. length v.branches) (update_of t.updates (target_of u)) 0 in
      within_append (way_steps t i u) (flat_map (λ xs. xs) (map_from (way_steps t) (i + 1) us))
      (and_both (is_step_within n (Branch i)) (list_all (is_step_within n) (map (Fail i) (range_with_len 0 count))) (is_less i n (omega arith)) (within_map (Fail i) (range_with_len 0 count) (λ b at. is_less i n (omega arith))))
      (within_ways t (i + 1) us (omega arith))

steps_within : (t : Transition) (width : ℕ) (terms : List Term) → width + t.params ≤ 256 → IsTrue (list_all (is_step_within (length terms)) (steps_of t width terms))
steps_within t width terms small =
    let n = length terms in
    let lates = map (λ j. Late j) (range_with_len 0 n) in
    let chooses = map (λ i. Choose i) (range_with_len 0 n) in
    let ways = flat_map (λ xs. xs) (map_from (way_steps t) 0 terms) in
    let others = map (λ q. Other q) (range_with_len 0 (width + t.params)) in
    within_append n (replicate t.params Param) (Guard ∷ (others ++ (ways ++ (chooses ++ lates)))) (within_params n t.params)
    (within_append n others (ways ++ (chooses ++ lates)) (within_map n (λ q. Other q) (range_with_len 0 (width + t.params)) (λ q at. is_less q 256 (let below = below_has (width + t.params) q at in omega arith)))
    (within_append n ways (chooses ++ lates) (within_ways n t 0 terms (omega arith))
    (within_append n chooses lates (within_map n (λ i. Choose i) (range_with_len 0 n) (λ i at. is_less i n (below_has n i at))) (within_map n (λ j. Late j) (range_with_len 0 n) (λ j at. refl)))))

terms_of_first : (us : List Term) → map (λ c. c.term) (map (λ u. choice u (way 0 [])) us) ≡ us
terms_of_first [] = refl
terms_of_first (u ∷ us) = ap (λ ts. u ∷ ts) (terms_of_first us)

-- ---- the first draft
pub first_stands : (j : Search) → IsJob j → j.steps ≡ steps_of j.transition j.cube.width (terms_in j.cube.lits) → Stands j j.steps (first_draft j.cube.width (terms_in j.cube.lits))
first_stands j job steps =
    let terms = terms_in j.cube.lits in
    let few = few_new j.protocol j.number j.transition j.cube.width terms job.its (rising_distinct terms (terms_in_rise j.cube.lits)) in
    let narrow = job.cube.narrow in
    let most = transition_few j.protocol j.number j.transition job.its in
    subst (λ ss. Stands j ss (first_draft j.cube.width (terms_in j.cube.lits))) (sym steps)
    (record {
      job = job;
      fits = first_fits j.protocol j.cube j.transition job.cube.fits;
      narrow = omega (arith, few, narrow);
      bounded = refl;
      terms = terms_of_first terms;
      within = steps_within j.transition j.cube.width terms (omega (arith, narrow, most));
      leaves = λ x at.
          (let own : Has (candidates_by j.protocol j.cube j.number j.transition) x =
          subst (λ xs. Has xs x) (steps_give (signature_of j.protocol) j.number j.transition j.cube.width j.cube.lits terms) (contains_Has (behind j (steps_of j.transition j.cube.width terms) (first_draft j.cube.width terms)) x at) in
          let none : 0 + j.number ≡ j.number = omega arith in
          has_Contains (candidates j.protocol j.cube) x
          (has_map_from (candidates_by j.protocol j.cube) 0 j.protocol.transitions j.number j.transition x job.its (subst (λ n. Has (candidates_by j.protocol j.cube n j.transition) x) (sym none) own)));
    })

-- what is behind it is what the choices for the transition give
pub first_behind : (j : Search) → j.steps ≡ steps_of j.transition j.cube.width (terms_in j.cube.lits) → behind j j.steps (first_draft j.cube.width (terms_in j.cube.lits)) ≡ candidates_by j.protocol j.cube j.number j.transition
first_behind j steps =
    ap (λ ss. behind j ss (first_draft j.cube.width (terms_in j.cube.lits))) steps ∙ steps_give (signature_of j.protocol) j.number j.transition j.cube.width j.cube.lits (terms_in j.cube.lits)
