-- Drafts on the way fit, and nothing is kept behind one whose literals no state meets.
use Rattle.std.proofs.Common.{◌≡◌, ◌⊎◌, ℕ, zero, suc, ◌+◌, ◌<◌, ◌≤◌, ◌^◌, Bool, true, false, List, [], ◌∷◌, ◌++◌, length, refl, sym, ap, ◌∙◌, subst, arith, inl, inr, Option, None, Some}
use Rattle.std.specs.Prelude.{map, not, ◌&&◌, ◌==◌, nat_lt, if◌then◌else◌, IsTrue, All, fold, slice_index, slice_index_or, slice_set, replicate}
use Rattle.std.specs.List.{flat_map, list_all, range_with_len}
use Rattle.std.proofs.lemmas.List.{append_assoc, append-nil, length_push}
use Rattle.std.proofs.lemmas.List.Elements.{All-push}
use Rattle.std.proofs.lemmas.List.Sums.{fold-append}
use Rattle.std.proofs.lemmas.List.FromFn.{length-range_with_len}
use Rattle.cub_base.proofs.Bools.{and_left, and_right, and_both, less_is, is_less, same_is}
use Rattle.cub_base.proofs.Members.{Has, has_cases, map_has, flat_map_has, has_all, all_has}
use Rattle.cub_proto.specs.declared.literal.Term.{Term}
use Rattle.cub_proto.specs.declared.literal.PSide.{PSide}
use Rattle.cub_proto.specs.declared.literal.ISide.{ISide}
use Rattle.cub_proto.specs.declared.literal.ISide.TheVariants.{Zero, At}
use Rattle.cub_proto.specs.declared.literal.Lit.{Lit}
use Rattle.cub_proto.specs.declared.literal.Lit.TheVariants.{FinIn, FinEq, FinNe, ProcEq, ProcNe, Diff}
use Rattle.cub_proto.specs.declared.transition.Update.{Update}
use Rattle.cub_proto.specs.declared.transition.Transition.{Transition}
use Rattle.cub_proto.specs.declared.protocol.Protocol.{Protocol}
use Rattle.cub_proto.specs.Configuration.{Configuration}
use Rattle.cub_proto.specs.Signature.{Signature, sort_of, constructors_of, constructors_at, same_finite, is_sort}
use Rattle.cub_proto.specs.StateOf.{IsStateOf, signature_of}
use Rattle.cub_proto.specs.Fits.{literal_fits, place_fits, process_side_fits, integer_side_fits, is_finite, is_any, update_fits}
use Rattle.cub_proto.specs.Truth.{is_true, all_true}
use Rattle.cub_proto.specs.Legal.{AreDistinctAlive}
use Rattle.cub_cube.specs.declared.cube.Cube.{Cube}
use Rattle.cub_cube.specs.Normal.{is_true_alone, ordered, inserted, placed, normal_form}
use Rattle.cub_cube.specs.Meaning.{IsConsistent}
use Rattle.cub_cube.specs.Kept.{Keeps}
use Rattle.cub_cube.specs.Rename.{renamed, renamed_all, along, IsInjection}
use Rattle.cub_cube.proofs.Form.{inserted_true, fold_true}
use Rattle.cub_cube.proofs.Agreeing.{agree_all_true}
use Rattle.cub_cube.proofs.Placing.{along_processes, identity, identity_at, identity_injection}
use Rattle.cub_cube.proofs.Renames.{at_along, length-along}
use Rattle.cub_cube.proofs.RenamedFits.{renamed_fits, renamed_all_fits, all_fits_within}
use Rattle.cub_cube.proofs.Negations.{negated_fits}
use Rattle.cub_cube.specs.Replace.{constant}
use Rattle.cub_cube.specs.Step.{target_of}
use Rattle.cub_base.proofs.Conjunctions.{list_all_join}
use Rattle.cub_proto.specs.declared.literal.Sort.{Sort}
use Rattle.cub_proto.specs.declared.literal.Value.{Value}
use Rattle.cub_proto.specs.Effect.{update_of}
use Rattle.cub_proto.specs.Negation.{negated}
use Rattle.updates.specs.declared.choice.Choice.{Choice}
use Rattle.updates.specs.Ways.{numbers, way, condition}
use Rattle.updates.specs.Chosen.{reading_places, choice, chosen_value, with_pick}
use Rattle.updates.proofs.Products.{number_has, below_has}
use Rattle.updates.proofs.WayLemmas.{all_at}
use Rattle.updates.proofs.Fitting.{reading_within, term_update, conditions_from, condition_fits}
use Rattle.piece_choices.specs.declared.piece.Piece.{Piece}
use Rattle.piece_choices.specs.Pieces.{IsPossible}
use Rattle.piece_choices.specs.Placings.{is_among}
use Rattle.piece_choices.specs.Picks.{Pick, pick, values_for}
use Rattle.piece_choices.specs.Conjunction.{guard_lits}
use Rattle.cub_base.specs.Numbered.{map_from}
use Rattle.std.specs.Option.{option_map_or}
use Rattle.cub_cube.specs.Mentions.{terms_in}
use Rattle.updates.specs.Through.{literal_before}
use Rattle.piece_choices.proofs.Suiting.{cube_term, place_fits_wider}
use Rattle.piece_choices.proofs.Fitting.{TransitionFits, guard_lits_fit, permission_fits}
use Rattle.piece_steps.specs.Steps.{Draft, Step, Param, Guard, Other, Branch, Fail, Choose, Late, choice_at, at_place, at_new_place, guarded, permitted, branched, failed, picked, branches_by, fails_by, extend, run, way_steps, steps_of, first_draft}
use Rattle.piece_steps.specs.DraftFits.{params_in, params_first, DraftFits}

-- ---- what fits a width fits a greater one
module _ (sig : Signature) (width wide : ℕ) (h : width ≤ wide) where
  wider_place : (t : Term) → IsTrue (place_fits width t) → IsTrue (place_fits wide t)
  wider_place (Term.Global g) fits = refl
  wider_place (Term.Cell a q) fits = let below = less_is q width fits in is_less q wide (omega arith)

  wider_process : (a : PSide) → IsTrue (process_side_fits sig width a) → IsTrue (process_side_fits sig wide a)
  wider_process (PSide.Global g) fits = fits
  wider_process (PSide.Place q) fits = let below = less_is q width fits in is_less q wide (omega arith)

  wider_integer : (a : ISide) → IsTrue (integer_side_fits sig width a) → IsTrue (integer_side_fits sig wide a)
  wider_integer Zero fits = refl
  wider_integer (At t) fits =
      and_both (is_sort (sort_of sig t) Sort.Int) (place_fits wide t) (and_left (is_sort (sort_of sig t) Sort.Int) (place_fits width t) fits)
      (wider_place t (and_right (is_sort (sort_of sig t) Sort.Int) (place_fits width t) fits))

  wider_terms : (a b : Term) → IsTrue (literal_fits sig width (FinEq a b)) → IsTrue (literal_fits sig wide (FinEq a b))
  wider_terms a b fits =
      let sorts = same_finite (sort_of sig a) (sort_of sig b) in
      let front = and_left (sorts && place_fits width a) (place_fits width b) fits in
      and_both (sorts && place_fits wide a) (place_fits wide b)
      (and_both sorts (place_fits wide a) (and_left sorts (place_fits width a) front) (wider_place a (and_right sorts (place_fits width a) front)))
      (wider_place b (and_right (sorts && place_fits width a) (place_fits width b) fits))

  wider_processes : (a b : PSide) → IsTrue (process_side_fits sig width a && process_side_fits sig width b) → IsTrue (process_side_fits sig wide a && process_side_fits sig wide b)
  wider_processes a b fits =
      and_both (process_side_fits sig wide a) (process_side_fits sig wide b) (wider_process a (and_left (process_side_fits sig width a) (process_side_fits sig width b) fits))
      (wider_process b (and_right (process_side_fits sig width a) (process_side_fits sig width b) fits))

  wider_lit : (l : Lit) → IsTrue (literal_fits sig width l) → IsTrue (literal_fits sig wide l)
  wider_lit (FinIn t mask) fits =
      let finite = is_finite (sort_of sig t) in
      let small = nat_lt mask (2 ^ constructors_at sig t) in
      let front = and_left (finite && place_fits width t) small fits in
      and_both (finite && place_fits wide t) small
      (and_both finite (place_fits wide t) (and_left finite (place_fits width t) front) (wider_place t (and_right finite (place_fits width t) front)))
      (and_right (finite && place_fits width t) small fits)
  wider_lit (FinEq a b) fits = wider_terms a b fits
  wider_lit (FinNe a b) fits = wider_terms a b fits
  wider_lit (ProcEq a b) fits = wider_processes a b fits
  wider_lit (ProcNe a b) fits = wider_processes a b fits
  wider_lit (Diff a b bound) fits =
      and_both (integer_side_fits sig wide a) (integer_side_fits sig wide b) (wider_integer a (and_left (integer_side_fits sig width a) (integer_side_fits sig width b) fits))
      (wider_integer b (and_right (integer_side_fits sig width a) (integer_side_fits sig width b) fits))

  pub wider_fits : (lits : List Lit) → IsTrue (list_all (literal_fits sig width) lits) → IsTrue (list_all (literal_fits sig wide) lits)
  wider_fits [] fits = refl
  wider_fits (l ∷ ls) fits =
      and_both (literal_fits sig wide l) (list_all (literal_fits sig wide) ls) (wider_lit l (and_left (literal_fits sig width l) (list_all (literal_fits sig width) ls) fits))
      (wider_fits ls (and_right (literal_fits sig width l) (list_all (literal_fits sig width) ls) fits))

-- ---- what steps do to drafts
-- the second draft has further literals and is at least as wide
pub record Grows (d e : Draft) : Type 0 where
  pub more : List Lit
  pub lits : e.lits ≡ d.lits ++ more
  pub wider : d.width ≤ e.width

pub record Stays (p : Protocol) (c : Cube) (t : Transition) (steps : List Step) (d e : Draft) : Type 0 where
  pub fits : DraftFits p c t steps e
  pub grows : Grows d e

choice_fits_at : (width : ℕ) (choices : List Choice) (i : ℕ) → All (λ e. IsTrue (place_fits width e.term)) choices → IsTrue (place_fits width (slice_index_or choices i (choice (Term.Global 0) (way 0 []))).term)
choice_fits_at width [] i all = refl
choice_fits_at width (c ∷ cs) zero all = all 0 c (omega arith)
choice_fits_at width (c ∷ cs) (suc i) all = choice_fits_at width cs i (λ k d below. all (suc k) d (omega arith))

choices_set : (width : ℕ) (choices : List Choice) (i : ℕ) (c : Choice) → All (λ e. IsTrue (place_fits width e.term)) choices → IsTrue (place_fits width c.term) → All (λ e. IsTrue (place_fits width e.term)) (slice_set choices i c)
choices_set width choices i c all own = has_all (λ e. IsTrue (place_fits width e.term)) (slice_set choices i c) (λ e h. by choices i e all h)
  where
    by : (cs : List Choice) (i : ℕ) (e : Choice) → All (λ x. IsTrue (place_fits width x.term)) cs → Has (slice_set cs i c) e → IsTrue (place_fits width e.term)
    by [] i e all none = absurd none
    by (x ∷ xs) zero e all (inl same) = subst (λ y. IsTrue (place_fits width y.term)) same own
    by (x ∷ xs) zero e all (inr later) = all_has (λ y. IsTrue (place_fits width y.term)) xs e (λ k d below. all (suc k) d (omega arith)) later
    by (x ∷ xs) (suc i) e all (inl same) = subst (λ y. IsTrue (place_fits width y.term)) same (all 0 x (omega arith))
    by (x ∷ xs) (suc i) e all (inr later) = by xs i e (λ k d below. all (suc k) d (omega arith)) later

none_in : (steps : List Step) → IsTrue (params_in steps == 0) → params_in steps ≡ 0
none_in steps h = same_is (params_in steps) 0 h

first_of : (steps : List Step) → params_in steps ≡ 0 → IsTrue (params_first steps)
first_of [] none = refl
first_of (Param ∷ steps) none = absurd (omega arith)
first_of (Guard ∷ steps) none = ap (λ n. n == 0) none
first_of (Other q ∷ steps) none = ap (λ n. n == 0) none
first_of (Branch i ∷ steps) none = ap (λ n. n == 0) none
first_of (Fail i b ∷ steps) none = ap (λ n. n == 0) none
first_of (Choose i ∷ steps) none = ap (λ n. n == 0) none
first_of (Late j ∷ steps) none = ap (λ n. n == 0) none

values_wide : (sig : Signature) (width : ℕ) (t : Term) (o : Option Sort) (x : Pick) → Has (values_for sig width t o) x → width ≤ x.width
values_wide sig width t (Some (Sort.Fin k)) x h =
    let found = map_has (λ c. pick width (Value.Con c)) (range_with_len 0 (constructors_of sig (Sort.Fin k))) x h in subst (λ y. width ≤ y.width) found.2 (omega arith)
values_wide sig width (Term.Global g) (Some Sort.Proc) x (inl same) = subst (λ y. width ≤ y.width) same (omega arith)
values_wide sig width (Term.Global g) (Some Sort.Proc) x (inr later) = by (has_cases (map (λ q. pick width (Value.Proc (PSide.Place q))) (range_with_len 0 width)) (pick (width + 1) (Value.Proc (PSide.Place width)) ∷ []) x later)
  where
    by : Has (map (λ q. pick width (Value.Proc (PSide.Place q))) (range_with_len 0 width)) x ⊎ Has (pick (width + 1) (Value.Proc (PSide.Place width)) ∷ []) x → width ≤ x.width
    by (inl at) = let found = map_has (λ q. pick width (Value.Proc (PSide.Place q))) (range_with_len 0 width) x at in subst (λ y. width ≤ y.width) found.2 (omega arith)
    by (inr (inl same)) = subst (λ y. width ≤ y.width) same (omega arith)
    by (inr (inr none)) = absurd none
values_wide sig width (Term.Cell a q) (Some Sort.Proc) x none = absurd none
values_wide sig width t (Some Sort.Int) x none = absurd none
values_wide sig width t None x none = absurd none

nothing_more : (lits : List Lit) → lits ≡ lits ++ []
nothing_more lits = sym (append-nil lits)

module _ (p : Protocol) (c : Cube) (t : Transition) (fit : TransitionFits p t) where
  -- a draft that a step without parameters leaves as it is
  same_stays : (rest : List Step) (d : Draft) → params_in rest ≡ 0 → (steps : List Step) → params_in steps ≡ 0 → DraftFits p c t steps d → Stays p c t rest d d
  same_stays rest d none steps none_before fits = record {
    fits = record {
      first = first_of rest none;
      count = (let n = fits.count in omega arith);
      below = fits.below;
      within = fits.within;
      wide = fits.wide;
      begins = λ some. absurd (omega arith);
      terms = fits.terms;
      fits = fits.fits;
    };
    grows = record { more = []; lits = nothing_more d.lits; wider = omega arith };
  }

  -- one with further literals that fit, whose choices change in place
  more_stays : (rest : List Step) (d e : Draft) → params_in rest ≡ 0 → (steps : List Step) → params_in steps ≡ 0 → DraftFits p c t steps d
      → e.params ≡ d.params → e.inner ≡ d.inner → d.width ≤ e.width → All (λ x. IsTrue (place_fits c.width x.term)) e.choices
      → (more : List Lit) → e.lits ≡ d.lits ++ more → IsTrue (list_all (literal_fits (signature_of p) e.width) more) → Stays p c t rest d e
  more_stays rest d e none steps none_before fits same_params same_inner wider terms more lits more_fit = record {
    fits = record {
      first = first_of rest none;
      count = (let n = fits.count in let m = ap length same_params in omega arith);
      below = subst (λ n. All (λ q. q < n) e.params) (sym same_inner) (subst (λ ps. All (λ q. q < d.inner) ps) (sym same_params) fits.below);
      within = (let w = fits.within in omega arith);
      wide = (let w = fits.wide in omega arith);
      begins = λ some. absurd (omega arith);
      terms = terms;
      fits = subst (λ ls. IsTrue (list_all (literal_fits (signature_of p) e.width) ls)) (sym lits) (list_all_join (literal_fits (signature_of p) e.width) d.lits more (wider_fits (signature_of p) d.width e.width wider d.lits fits.fits) more_fit);
    };
    grows = record { more = more; lits = lits; wider = wider };
  }

  in_all : (steps : List Step) (d : Draft) → params_in steps ≡ 0 → DraftFits p c t steps d → length d.params ≡ t.params
  in_all steps d none fits = let n = fits.count in omega arith

  params_in_width : (steps : List Step) (d : Draft) → DraftFits p c t steps d → (q : ℕ) → Has d.params q → q < d.width
  params_in_width steps d fits q h = let b = all_has (λ x. x < d.inner) d.params q fits.below h in let w = fits.within in omega arith

  reading_in_width : (steps : List Step) (d : Draft) (i : ℕ) → DraftFits p c t steps d → All (λ q. q < d.width) (reading_places d.params (choice_at d i).term)
  reading_in_width steps d i fits =
      let w = fits.within in let v = fits.wide in
      reading_within d.width d.params (choice_at d i).term (has_all (λ q. q < d.width) d.params (params_in_width steps d fits))
      (place_fits_wider c.width d.width (choice_at d i).term (omega arith) (choice_fits_at c.width d.choices i fits.terms))

  -- the places that are no parameter, and new places of picks
  permitted_stays : (rest : List Step) (step : Step) (d : Draft) (q n : ℕ) → params_in (step ∷ rest) ≡ 0 → params_in rest ≡ 0 → DraftFits p c t (step ∷ rest) d → q < d.width → n < length t.others → Stays p c t rest d (permitted t d q n)
  permitted_stays rest step d q n none none_rest fits inside below =
      more_stays rest d (permitted t d q n) none_rest (step ∷ rest) none fits refl refl (omega arith) fits.terms (renamed_all (d.params ++ q ∷ []) (slice_index_or t.others n [])) refl
      (permission_fits p t fit d.params (in_all (step ∷ rest) d none fits) d.width (params_in_width (step ∷ rest) d fits) q n inside below)

  some_permitted : (rest : List Step) (step : Step) (d e : Draft) (q : ℕ) (b : Bool) → params_in (step ∷ rest) ≡ 0 → params_in rest ≡ 0 → DraftFits p c t (step ∷ rest) d → (b ≡ true → q < d.width)
      → Has (if b then map (permitted t d q) (numbers t.others) else d ∷ []) e → Stays p c t rest d e
  some_permitted rest step d e q true none none_rest fits inside h =
      let found = map_has (permitted t d q) (numbers t.others) e h in
      subst (Stays p c t rest d) found.2 (permitted_stays rest step d q found.0 none none_rest fits (inside refl) (number_has t.others found.0 found.1))
  some_permitted rest step d e q false none none_rest fits inside (inl same) = subst (Stays p c t rest d) same (same_stays rest d none_rest (step ∷ rest) none fits)
  some_permitted rest step d e q false none none_rest fits inside (inr nothing) = absurd nothing

  -- each step keeps that the draft fits
  pub stays : (step : Step) (rest : List Step) (d e : Draft) → DraftFits p c t (step ∷ rest) d → Has (extend (signature_of p) t c.width step d) e → Stays p c t rest d e
  stays Param rest d e fits h =
      let begin = fits.begins (omega arith) in
      by begin.0 begin.1 (has_cases (flat_map old (range_with_len 0 c.width)) (at_new_place d ∷ []) e h)
    where
      old : ℕ → List Draft
      old q = if is_among d.params q then [] else at_place d q ∷ []

      one : d.lits ≡ [] → d.width ≡ d.inner → (q : ℕ) → q < c.width → Stays p c t rest d (at_place d q)
      one empty same q below = record {
        fits = record {
          first = fits.first;
          count = (let n = fits.count in let l = length_push d.params q in omega arith);
          below = All-push (λ x. x < d.inner) d.params q fits.below (let w = fits.wide in omega arith);
          within = fits.within;
          wide = fits.wide;
          begins = λ some. (empty, same);
          terms = fits.terms;
          fits = fits.fits;
        };
        grows = record { more = []; lits = nothing_more d.lits; wider = omega arith };
      }

      new : d.lits ≡ [] → d.width ≡ d.inner → Stays p c t rest d (at_new_place d)
      new empty same = record {
        fits = record {
          first = fits.first;
          count = (let n = fits.count in let l = length_push d.params d.inner in omega arith);
          below = All-push (λ x. x < d.inner + 1) d.params d.inner (has_all (λ x. x < d.inner + 1) d.params (λ x at. (let b = all_has (λ y. y < d.inner) d.params x fits.below at in omega arith))) (omega arith);
          within = omega arith;
          wide = (let w = fits.wide in omega arith);
          begins = λ some. (empty, refl);
          terms = fits.terms;
          fits = subst (λ ls. IsTrue (list_all (literal_fits (signature_of p) (d.inner + 1)) ls)) (sym empty) refl;
        };
        grows = record { more = []; lits = nothing_more d.lits; wider = omega arith };
      }

      by : d.lits ≡ [] → d.width ≡ d.inner → Has (flat_map old (range_with_len 0 c.width)) e ⊎ Has (at_new_place d ∷ []) e → Stays p c t rest d e
      by empty same (inl at) =
          let found = flat_map_has old (range_with_len 0 c.width) e at in
          split found.0 (is_among d.params found.0) (below_has c.width found.0 found.1) found.2
        where
          split : (q : ℕ) (b : Bool) → q < c.width → Has (if b then [] else at_place d q ∷ []) e → Stays p c t rest d e
          split q true below none = absurd none
          split q false below (inl is) = subst (Stays p c t rest d) is (one empty same q below)
          split q false below (inr none) = absurd none
      by empty same (inr (inl is)) = subst (Stays p c t rest d) is (new empty same)
      by empty same (inr (inr none)) = absurd none
  stays Guard rest d e fits h =
      let none = none_in rest fits.first in
      let found = map_has (guarded t d) (numbers t.guard) e h in
      subst (Stays p c t rest d) found.2
      (more_stays rest d (guarded t d found.0) none (Guard ∷ rest) none fits refl refl (omega arith) fits.terms (guard_lits t d.params found.0) refl
      (guard_lits_fit p t fit d.params (in_all (Guard ∷ rest) d none fits) d.width (params_in_width (Guard ∷ rest) d fits) found.0 (number_has t.guard found.0 found.1)))
  stays (Other q) rest d e fits h =
      let none = none_in rest fits.first in
      some_permitted rest (Other q) d e q (nat_lt q d.inner && not (is_among d.params q)) none none fits
      (λ yes_it. (let below = less_is q d.inner (and_left (nat_lt q d.inner) (not (is_among d.params q)) yes_it) in let w = fits.within in omega arith)) h
  stays (Late j) rest d e fits h =
      let none = none_in rest fits.first in
      some_permitted rest (Late j) d e (d.inner + j) (nat_lt (d.inner + j) d.width) none none fits (λ yes_it. less_is (d.inner + j) d.width yes_it) h
  stays (Branch i) rest d e fits h = by (update_of t.updates (target_of (choice_at d i).term)) refl h
    where
      none : params_in rest ≡ 0
      none = none_in rest fits.first

      by : (o : Option Update) → update_of t.updates (target_of (choice_at d i).term) ≡ o → Has (branches_by o d i (choice_at d i)) e → Stays p c t rest d e
      by None is (inl same) = subst (Stays p c t rest d) same (same_stays rest d none (Branch i ∷ rest) none fits)
      by None is (inr nothing) = absurd nothing
      by (Some u) is at =
          let own = choice_at d i in
          let r = reading_places d.params own.term in
          let found = map_has (branched d i own u) (range_with_len 0 (length u.branches + 1)) e at in
          let its = term_update (signature_of p) d.params t.updates own.term u (subst (λ n. IsTrue (list_all (update_fits (signature_of p) n) t.updates)) (sym (in_all (Branch i ∷ rest) d none fits)) fit.updates) is in
          subst (Stays p c t rest d) found.2
          (more_stays rest d (branched d i own u found.0) none (Branch i ∷ rest) none fits refl refl (omega arith)
          (choices_set c.width d.choices i (record own { branch = found.0 }) fits.terms (choice_fits_at c.width d.choices i fits.terms)) (renamed_all r (condition u.branches found.0)) refl
          (renamed_all_fits (signature_of p) d.width r (reading_in_width (Branch i ∷ rest) d i fits) (condition u.branches found.0)
          (condition_fits p (length r) u.branches found.0 (conditions_from p (length r) its.sort u.branches its.branches))))
  stays (Fail i b) rest d e fits h = by (update_of t.updates (target_of (choice_at d i).term)) refl h
    where
      none : params_in rest ≡ 0
      none = none_in rest fits.first

      by : (o : Option Update) → update_of t.updates (target_of (choice_at d i).term) ≡ o → Has (fails_by (signature_of p) o d i b (choice_at d i)) e → Stays p c t rest d e
      by None is (inl same) = subst (Stays p c t rest d) same (same_stays rest d none (Fail i b ∷ rest) none fits)
      by None is (inr nothing) = absurd nothing
      by (Some u) is at = split (nat_lt b (choice_at d i).branch) at
        where
          split : (x : Bool) → Has (if x then map (failed (signature_of p) d i (choice_at d i) (condition u.branches b)) (numbers (condition u.branches b)) else d ∷ []) e → Stays p c t rest d e
          split true at =
              let own = choice_at d i in
              let sig = signature_of p in
              let r = reading_places d.params own.term in
              let cond = condition u.branches b in
              let found = map_has (failed sig d i own cond) (numbers cond) e at in
              let its = term_update sig d.params t.updates own.term u (subst (λ n. IsTrue (list_all (update_fits sig n) t.updates)) (sym (in_all (Fail i b ∷ rest) d none fits)) fit.updates) is in
              let l : Lit = slice_index_or cond found.0 (constant true) in
              let l_fits = all_at (literal_fits sig (length r)) cond found.0 (constant true) (condition_fits p (length r) u.branches b (conditions_from p (length r) its.sort u.branches its.branches)) (number_has cond found.0 found.1) in
              subst (Stays p c t rest d) found.2
              (more_stays rest d (failed sig d i own cond found.0) none (Fail i b ∷ rest) none fits refl refl (omega arith)
              (choices_set c.width d.choices i (record own { fails = own.fails ++ found.0 ∷ [] }) fits.terms (choice_fits_at c.width d.choices i fits.terms)) (renamed r (negated sig l) ∷ []) refl
              (and_both (literal_fits sig d.width (renamed r (negated sig l))) true (renamed_fits sig d.width r (reading_in_width (Fail i b ∷ rest) d i fits) (negated sig l) (negated_fits sig (length r) l l_fits)) refl))
          split false (inl same) = subst (Stays p c t rest d) same (same_stays rest d none (Fail i b ∷ rest) none fits)
          split false (inr nothing) = absurd nothing
  stays (Choose i) rest d e fits h = by (is_any (chosen_value t.updates d.params (choice_at d i))) h
    where
      none : params_in rest ≡ 0
      none = none_in rest fits.first

      by : (b : Bool) → Has (if b then map (picked d i (choice_at d i)) (values_for (signature_of p) d.width (choice_at d i).term (sort_of (signature_of p) (choice_at d i).term)) else d ∷ []) e → Stays p c t rest d e
      by true at =
          let own = choice_at d i in
          let found = map_has (picked d i own) (values_for (signature_of p) d.width own.term (sort_of (signature_of p) own.term)) e at in
          let wider = values_wide (signature_of p) d.width own.term (sort_of (signature_of p) own.term) found.0 found.1 in
          subst (Stays p c t rest d) found.2
          (more_stays rest d (picked d i own found.0) none (Choose i ∷ rest) none fits refl refl wider
          (choices_set c.width d.choices i (with_pick own found.0.value) fits.terms (choice_fits_at c.width d.choices i fits.terms)) [] (nothing_more d.lits) refl)
      by false (inl same) = subst (Stays p c t rest d) same (same_stays rest d none (Choose i ∷ rest) none fits)
      by false (inr nothing) = absurd nothing

  -- ---- what is behind a draft
  -- the piece has the draft's literals and more, and is at least as wide
  pub record Behind (number : ℕ) (d : Draft) (x : Piece) : Type 0 where
    pub more : List Lit
    pub lits : x.cube.lits ≡ normal_form (signature_of p) (d.lits ++ more)
    pub wider : d.width ≤ x.cube.width

  pub behind : (number : ℕ) (steps : List Step) (d : Draft) (x : Piece) → DraftFits p c t steps d → Has (run (signature_of p) number t c.width c.lits steps d) x → Behind number d x
  behind number [] d x fits (inl same) = subst (Behind number d) same (record { more = map (literal_before (signature_of p) t.updates d.params d.choices) c.lits; lits = refl; wider = omega arith })
  behind number [] d x fits (inr none) = absurd none
  behind number (step ∷ rest) d x fits h =
      let found = flat_map_has (run (signature_of p) number t c.width c.lits rest) (extend (signature_of p) t c.width step d) x h in
      let next = stays step rest d found.0 fits found.1 in
      let after = behind number rest found.0 x next.fits found.2 in
      let wide = next.grows.wider in
      let wider = after.wider in
      record {
        more = next.grows.more ++ after.more;
        lits = after.lits ∙ ap (λ ls. normal_form (signature_of p) (ls ++ after.more)) next.grows.lits ∙ ap (normal_form (signature_of p)) (append_assoc d.lits next.grows.more after.more);
        wider = omega arith;
      }

-- ---- a normal form that is true makes its first literals true
module _ (p : Protocol) (s : Configuration) (places : List ℕ) (state : IsStateOf p s) (distinct : AreDistinctAlive s places) where
  form_kept : (form lits : List Lit) → IsTrue (all_true s places (fold (placed (signature_of p)) form lits)) → IsTrue (all_true s places form)
  form_kept form [] h = h
  form_kept form (l ∷ ls) h = by (is_true_alone (signature_of p) l) (form_kept (placed (signature_of p) form l) ls h)
    where
      by : (b : Bool) → IsTrue (all_true s places (if b then form else inserted form (ordered l))) → IsTrue (all_true s places form)
      by true k = k
      by false k = and_right (is_true s places (ordered l)) (all_true s places form) (sym (inserted_true s places form (ordered l)) ∙ k)

  first_true : (lits more : List Lit) → IsTrue (list_all (literal_fits (signature_of p) (length places)) lits) → IsTrue (all_true s places (normal_form (signature_of p) (lits ++ more))) → IsTrue (all_true s places lits)
  first_true lits more fits h =
      sym (fold_true p s places state distinct [] lits fits)
      ∙ form_kept (normal_form (signature_of p) lits) more (sym (ap (all_true s places) (fold-append (placed (signature_of p)) [] lits more)) ∙ h)

-- ---- nothing is kept behind a draft that no state meets
consistent_draft : (p : Protocol) (width wide : ℕ) (lits more : List Lit) → width ≤ wide → IsTrue (list_all (literal_fits (signature_of p) width) lits) → IsConsistent p wide (normal_form (signature_of p) (lits ++ more)) → IsConsistent p width lits
consistent_draft p width wide lits more narrow fits (s, state, (places, sat)) =
    let size = sat.one_each in
    let here : IsTrue (all_true s places lits) = first_true p s places state sat.processes lits more (wider_fits (signature_of p) width (length places) (omega arith) lits fits) sat.holds in
    let own = identity_injection width in
    let injection : IsInjection width (length places) (identity width) = record { one_each = own.one_each; within = λ k d below. omega (arith, own.within k d below); apart = own.apart } in
    let agree = λ (q : ℕ) (below : q < width). at_along (identity width) places q (subst (λ n. q < n) (sym (length-range_with_len 0 width)) below) ∙ ap (slice_index places) (identity_at width q below) in (
      s,
      state,
      (
        along (identity width) places,
        record {
          one_each = length-along (identity width) places ∙ length-range_with_len 0 width;
          processes = along_processes s places (identity width) width injection sat.processes;
          holds = agree_all_true s width (along (identity width) places) places lits (all_fits_within (signature_of p) width lits fits) agree ∙ here;
        },
      ),
    )

none_kept : {A : Type 0} (P : A → Type 0) (xs : List A) → ((x : A) → Has xs x → P x → ⊥) → Keeps P xs []
none_kept P [] none = refl
none_kept P (x ∷ xs) none = inr (none x (inl refl), none_kept P xs (λ y h. none y (inr h)))

pub nothing_behind : (p : Protocol) (c : Cube) (number : ℕ) (t : Transition) (steps : List Step) (d : Draft) → TransitionFits p t → DraftFits p c t steps d → (IsConsistent p d.width d.lits → ⊥)
    → Keeps (IsPossible p) (run (signature_of p) number t c.width c.lits steps d) []
nothing_behind p c number t steps d fit fits none =
    none_kept (IsPossible p) (run (signature_of p) number t c.width c.lits steps d)
    (λ x h possible.
    let at = behind p c t fit number steps d x fits h in
    none (consistent_draft p d.width x.cube.width d.lits at.more at.wider fits.fits (subst (λ ls. IsConsistent p x.cube.width ls) at.lits possible)))

-- ---- the first draft
other_params : (steps : List Step) → params_in steps ≡ 0 → (m : ℕ) → params_in (replicate m Param ++ steps) ≡ m
other_params steps none zero = none
other_params steps none (suc m) = let rest = other_params steps none m in omega arith

first_params : (steps : List Step) → IsTrue (params_first steps) → (m : ℕ) → IsTrue (params_first (replicate m Param ++ steps))
first_params steps first zero = first
first_params steps first (suc m) = first_params steps first m

none_others : (from n : ℕ) (rest : List Step) → params_in rest ≡ 0 → params_in (map (λ q. Other q) (range_with_len from n) ++ rest) ≡ 0
none_others from zero rest h = h
none_others from (suc n) rest h = none_others (from + 1) n rest h

none_fails : (i from n : ℕ) (rest : List Step) → params_in rest ≡ 0 → params_in (map (Fail i) (range_with_len from n) ++ rest) ≡ 0
none_fails i from zero rest h = h
none_fails i from (suc n) rest h = none_fails i (from + 1) n rest h

none_chooses : (from n : ℕ) (rest : List Step) → params_in rest ≡ 0 → params_in (map (λ i. Choose i) (range_with_len from n) ++ rest) ≡ 0
none_chooses from zero rest h = h
none_chooses from (suc n) rest h = none_chooses (from + 1) n rest h

none_lates : (from n : ℕ) → params_in (map (λ j. Late j) (range_with_len from n)) ≡ 0
none_lates from zero = refl
none_lates from (suc n) = none_lates (from + 1) n

none_ways : (t : Transition) (i : ℕ) (terms : List Term) (rest : List Step) → params_in rest ≡ 0 → params_in (flat_map (λ xs. xs) (map_from (way_steps t) i terms) ++ rest) ≡ 0
none_ways t i [] rest h = h
none_ways t i (u ∷ us) rest h =
    ap params_in (append_assoc (way_steps t i u) (flat_map (λ xs. xs) (map_from (way_steps t) (i + 1) us)) rest)
    ∙ none_fails i 0 (option_map_or (λ v. length v.branches) (update_of t.updates (target_of u)) 0) (flat_map (λ xs. xs) (map_from (way_steps t) (i + 1) us) ++ rest) (none_ways t (i + 1) us rest h)

pub first_fits : (p : Protocol) (c : Cube) (t : Transition) → IsTrue (list_all (literal_fits (signature_of p) c.width) c.lits) → DraftFits p c t (steps_of t c.width (terms_in c.lits)) (first_draft c.width (terms_in c.lits))
first_fits p c t fits =
    let terms = terms_in c.lits in
    let lates = none_lates 0 (length terms) in
    let chooses = none_chooses 0 (length terms) (map (λ j. Late j) (range_with_len 0 (length terms))) lates in
    let ways = none_ways t 0 terms (map (λ i. Choose i) (range_with_len 0 (length terms)) ++ map (λ j. Late j) (range_with_len 0 (length terms))) chooses in
    let others = none_others 0 (c.width + t.params) (flat_map (λ xs. xs) (map_from (way_steps t) 0 terms) ++ (map (λ i. Choose i) (range_with_len 0 (length terms)) ++ map (λ j. Late j) (range_with_len 0 (length terms)))) ways in
    let tail : List Step = Guard ∷ (map (λ q. Other q) (range_with_len 0 (c.width + t.params)) ++ (flat_map (λ xs. xs) (map_from (way_steps t) 0 terms) ++ (map (λ i. Choose i) (range_with_len 0 (length terms)) ++ map (λ j. Late j) (range_with_len 0 (length terms))))) in
    record {
      first = first_params tail (first_of tail others) t.params;
      count = (let all = other_params tail others t.params in omega arith);
      below = λ k d below. absurd (omega arith);
      within = omega arith;
      wide = omega arith;
      begins = λ some. (refl, refl);
      terms = has_all (λ e. IsTrue (place_fits c.width e.term)) (map (λ u. choice u (way 0 [])) terms)
          (λ e h. (let found = map_has (λ u. choice u (way 0 [])) terms e h in
          subst (λ x. IsTrue (place_fits c.width x.term)) found.2 (cube_term (signature_of p) c.width c.lits found.0 fits found.1).place));
      fits = refl;
    }
