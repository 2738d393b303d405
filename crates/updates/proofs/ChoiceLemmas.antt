-- What a choice says holds: where the literals of its way are true, its term takes its value.
use Rattle.std.proofs.Common.{◌≡◌, ℕ, suc, zero, ◌<◌, ◌≤◌, Bool, true, false, List, [], ◌∷◌, length, get_or, take, Option, Some, None, refl, sym, ap, ◌∙◌, subst, arith, inl, inr}
use Rattle.std.specs.Prelude.{map, All, IsTrue, ◌||◌, if◌then◌else◌, nat_lt, nat_le, slice_index, unwrap_or}
use Rattle.std.specs.List.{list_all, AllZip}
use Rattle.std.specs.Option.{option_map_or}
use Rattle.std.specs.Ordering.{is_eq}
use Rattle.std.specs.declared.cmp.Ordering.{Ordering}
use Rattle.std.specs.declared.cmp.Ordering.TheVariants.{Less, Equal, Greater}
use Rattle.cub_proto.specs.declared.literal.Sort.{Sort}
use Rattle.cub_proto.specs.declared.literal.Term.{Term}
use Rattle.cub_proto.specs.declared.literal.Value.{Value}
use Rattle.cub_proto.specs.declared.transition.Branch.{Branch}
use Rattle.cub_proto.specs.declared.transition.Update.{Update}
use Rattle.cub_proto.specs.declared.state.Val.{Val}
use Rattle.cub_proto.specs.declared.state.Slot.{Slot}
use Rattle.cub_proto.specs.declared.protocol.Protocol.{Protocol}
use Rattle.cub_proto.specs.Configuration.{Configuration, process_count}
use Rattle.cub_proto.specs.Signature.{sort_of, is_sort}
use Rattle.cub_proto.specs.StateOf.{IsStateOf, signature_of}
use Rattle.cub_proto.specs.Order.{term_cmp}
use Rattle.cub_proto.specs.Fits.{literal_fits, place_fits, update_fits, is_any}
use Rattle.cub_proto.specs.Truth.{slot_of, term_value, all_true}
use Rattle.cub_proto.specs.Effect.{meaning_of, settled, counting, update_of, updated}
use Rattle.cub_proto.specs.Legal.{AreDistinctAlive}
use Rattle.cub_cube.specs.Rename.{along, renamed_value, value_within}
use Rattle.cub_cube.specs.Replace.{can_replace}
use Rattle.cub_cube.specs.Step.{target_of, update_places, value_after}
use Rattle.cub_base.proofs.Bools.{and_left, and_right, and_both, less_is, is_less, le_is}
use Rattle.cub_base.proofs.Members.{Has}
use Rattle.cub_cube.proofs.Orders.{terms_equal}
use Rattle.cub_cube.proofs.States.{processes_within}
use Rattle.cub_cube.proofs.Renames.{renamed_all_true, renamed_meaning}
use Rattle.cub_cube.proofs.RenamedFits.{renamed_all_fits, all_fits_within}
use Rattle.updates.specs.declared.choice.Choice.{Choice}
use Rattle.updates.specs.Ways.{numbers, way, way_lits, way_value}
use Rattle.updates.specs.Chosen.{reading_places, lits_by, choice_lits, value_by, chosen_value, taken, taken_value, same_term, values_by}
use Rattle.updates.specs.Allowed.{are_failures, is_way, way_fits, pick_fits}
use Rattle.updates.specs.Through.{PickAgrees, has_choice}
use Rattle.updates.proofs.Products.{has_number, number_has, product_has, has_product}
use Rattle.updates.proofs.WayLemmas.{conditions_fit, IsWay, counts_from}
use Rattle.updates.proofs.Fitting.{along_reading, reading_within, term_update, conditions_from, way_value_fits, way_lits_fit, fits_value_within, renamed_can, renamed_any}

-- ---- ways by the test
failures_each : (branches : List Branch) (fails : List ℕ) → IsTrue (are_failures branches fails) → AllZip Has (map (λ b. numbers b.cond) branches) fails
failures_each [] [] h = tt
failures_each [] (f ∷ fs) h = cc
failures_each (b ∷ bs) [] h = cc
failures_each (b ∷ bs) (f ∷ fs) h =
    (has_number b.cond f (less_is f (length b.cond) (and_left (nat_lt f (length b.cond)) (are_failures bs fs) h)), failures_each bs fs (and_right (nat_lt f (length b.cond)) (are_failures bs fs) h))

each_failures : (branches : List Branch) (fails : List ℕ) → AllZip Has (map (λ b. numbers b.cond) branches) fails → IsTrue (are_failures branches fails)
each_failures [] [] h = refl
each_failures [] (f ∷ fs) h = absurd h
each_failures (b ∷ bs) [] h = absurd h
each_failures (b ∷ bs) (f ∷ fs) h = and_both (nat_lt f (length b.cond)) (are_failures bs fs) (is_less f (length b.cond) (number_has b.cond f h.0)) (each_failures bs fs h.1)

pub way_is : (branches : List Branch) (n : ℕ) (fails : List ℕ) → IsTrue (is_way branches n fails) → IsWay branches n fails
way_is branches n fails h = record {
  within = le_is n (length branches) (and_left (nat_le n (length branches)) (are_failures (take n branches) fails) h);
  fail = has_product (map (λ b. numbers b.cond) (take n branches)) fails (failures_each (take n branches) fails (and_right (nat_le n (length branches)) (are_failures (take n branches) fails) h));
}

is_le_test : (x y : ℕ) → x ≤ y → nat_le x y ≡ true
is_le_test x y h = is_le_from x y h
  where
    is_le_from : (x y : ℕ) → x ≤ y → nat_le x y ≡ true
    is_le_from x y h = grind (arith)

pub is_a_way : (branches : List Branch) (n : ℕ) (fails : List ℕ) → IsWay branches n fails → IsTrue (is_way branches n fails)
is_a_way branches n fails is =
    and_both (nat_le n (length branches)) (are_failures (take n branches) fails) (is_le_test n (length branches) is.within)
    (each_failures (take n branches) fails (product_has (map (λ b. numbers b.cond) (take n branches)) fails is.fail))

-- the way that a choice takes through an update, if there is one
abbrev pub TakesWay : Option Update → Choice → Type 0
TakesWay None c = Unit {0}
TakesWay (Some u) c = IsWay u.branches c.branch c.fails

pub way_taken : (o : Option Update) (c : Choice) → IsTrue (way_fits o c) → TakesWay o c
way_taken None c h = tt
way_taken (Some u) c h = way_is u.branches c.branch c.fails h

-- ---- terms
same_from : (o : Ordering) → is_eq o ≡ true → o ≡ Equal
same_from Less h = cc
same_from Equal h = refl
same_from Greater h = cc

pub same_term_is : (t u : Term) → same_term t u ≡ true → t ≡ u
same_term_is t u h = terms_equal t u (same_from (term_cmp t u) h)

taken_known : (pick : Option Value) (v : Value) → is_any v ≡ false → taken pick v ≡ v
taken_known pick (Value.Con c) h = refl
taken_known pick (Value.Read t) h = refl
taken_known pick (Value.Proc side) h = refl
taken_known pick (Value.Sum base add) h = refl
taken_known pick Value.Any h = cc

settled_known : (s : Configuration) (places : List ℕ) (v : Value) (pick : Option Val) (old : Val) → is_any v ≡ false → settled s places v pick old ≡ meaning_of s places v old
settled_known s places (Value.Con c) pick old h = refl
settled_known s places (Value.Read t) pick old h = refl
settled_known s places (Value.Proc side) pick old h = refl
settled_known s places (Value.Sum base add) pick old h = refl
settled_known s places Value.Any pick old h = cc

any_is : (v : Value) → is_any v ≡ true → v ≡ Value.Any
any_is (Value.Con c) h = cc
any_is (Value.Read t) h = cc
any_is (Value.Proc side) h = cc
any_is (Value.Sum base add) h = cc
any_is Value.Any h = refl

-- ---- one choice
module _ (p : Protocol) (updates : List Update) (params : List ℕ) (fit : IsTrue (list_all (update_fits (signature_of p) (length params)) updates)) (width : ℕ) (inside : All (λ q. q < width) params) where
  -- its literals fit
  pub choice_lits_fit : (c : Choice) → IsTrue (place_fits width c.term) → TakesWay (update_of updates (target_of c.term)) c → IsTrue (list_all (literal_fits (signature_of p) width) (choice_lits (signature_of p) updates params c))
  choice_lits_fit c place is = by (update_of updates (target_of c.term)) refl is
    where
      by : (o : Option Update) → update_of updates (target_of c.term) ≡ o → TakesWay o c → IsTrue (list_all (literal_fits (signature_of p) width) (lits_by (signature_of p) o params c))
      by None e is = refl
      by (Some u) e is =
          let fits = term_update (signature_of p) params updates c.term u fit e in
          let r = reading_places params c.term in
          renamed_all_fits (signature_of p) width r (reading_within width params c.term inside place) (way_lits (signature_of p) u.branches (way c.branch c.fails))
          (way_lits_fit p (length r) u.branches c.branch c.fails (conditions_from p (length r) fits.sort u.branches fits.branches) is)

  -- its value can stand for the term
  pub taken_can : (c : Choice) (sort : Sort) → sort_of (signature_of p) c.term ≡ Some sort → IsTrue (place_fits width c.term) → IsTrue (pick_fits (signature_of p) width updates params c)
      → IsTrue (can_replace (signature_of p) width sort (taken_value updates params c))
  taken_can c sort is place picks = by (is_any (chosen_value updates params c)) refl picks
    where
      of_sort : (o : Option Sort) → o ≡ Some sort → IsTrue (option_map_or (λ x. can_replace (signature_of p) width x (taken_value updates params c)) o false) → IsTrue (can_replace (signature_of p) width sort (taken_value updates params c))
      of_sort o e h = subst (λ x. IsTrue (option_map_or (λ y. can_replace (signature_of p) width y (taken_value updates params c)) x false)) e h

      same_sort_refl : (sort : Sort) → is_sort (Some sort) sort ≡ true
      same_sort_refl (Sort.Fin k) = grind (arith)
      same_sort_refl Sort.Proc = refl
      same_sort_refl Sort.Int = refl

      known : (o : Option Update) → update_of updates (target_of c.term) ≡ o → is_any (value_by o params c) ≡ false → IsTrue (can_replace (signature_of p) width sort (value_by o params c))
      known None e isnt =
          and_both (is_sort (sort_of (signature_of p) c.term) sort) (place_fits width c.term) (ap (λ o. is_sort o sort) is ∙ same_sort_refl sort) place
      known (Some u) e isnt =
          let fits = term_update (signature_of p) params updates c.term u fit e in
          let r = reading_places params c.term in
          let same : fits.sort ≡ sort = (let f = fits.is_sort in cc) in
          subst (λ x. IsTrue (can_replace (signature_of p) width x (renamed_value r (way_value u c.branch)))) same
          (renamed_can (signature_of p) width r (reading_within width params c.term inside place) fits.sort (way_value u c.branch) (way_value_fits (signature_of p) (length r) c.term u c.branch fits)
          (sym (renamed_any r (way_value u c.branch)) ∙ isnt))

      by : (b : Bool) → is_any (chosen_value updates params c) ≡ b → IsTrue (if b then option_map_or (λ x. can_replace (signature_of p) width x (taken_value updates params c)) (sort_of (signature_of p) c.term) false else true)
          → IsTrue (can_replace (signature_of p) width sort (taken_value updates params c))
      by true e h = of_sort (sort_of (signature_of p) c.term) is h
      by false e h =
          subst (λ v. IsTrue (can_replace (signature_of p) width sort v)) (sym (taken_known c.pick (chosen_value updates params c) e))
          (known (update_of updates (target_of c.term)) refl e)

module _ (p : Protocol) (updates : List Update) (params : List ℕ) (fit : IsTrue (list_all (update_fits (signature_of p) (length params)) updates))
    (s : Configuration) (places : List ℕ) (state : IsStateOf p s) (distinct : AreDistinctAlive s places) (inside : All (λ q. q < length places) params) where
  pub reading_processes : (t : Term) → IsTrue (place_fits (length places) t) → All (λ i. i < process_count s) (along (reading_places params t) places)
  reading_processes t place = λ k d below.
      let r = reading_places params t in
      let size : k < length r = subst (λ n. k < n) (length_map r) below in
      let within = reading_within (length places) params t inside place k 0 size in
      subst (λ i. i < process_count s) (sym (at_map r k d size)) (processes_within s places distinct (get_or r k 0) 0 within)
    where
      length_map : (r : List ℕ) → length (along r places) ≡ length r
      length_map [] = refl
      length_map (q ∷ qs) = ap suc (length_map qs)

      at_map : (r : List ℕ) (k d : ℕ) → k < length r → get_or (along r places) k d ≡ slice_index places (get_or r k 0)
      at_map [] k d h = absurd (omega arith)
      at_map (q ∷ qs) zero d h = refl
      at_map (q ∷ qs) (suc k) d h = at_map qs k d (omega arith)

  pub length_at : (t : Term) → length (along (reading_places params t) places) ≡ length (reading_places params t)
  length_at t = length_of (reading_places params t)
    where
      length_of : (r : List ℕ) → length (along r places) ≡ length r
      length_of [] = refl
      length_of (q ∷ qs) = ap suc (length_of qs)

  -- the literals of a way at the places where the update is read, and at those of the cube
  pub way_lits_true : (c : Choice) (u : Update) → update_of updates (target_of c.term) ≡ Some u → IsWay u.branches c.branch c.fails
      → all_true s places (lits_by (signature_of p) (Some u) params c) ≡ all_true s (update_places (along params places) places c.term) (way_lits (signature_of p) u.branches (way c.branch c.fails))
  way_lits_true c u e is =
      let fits = term_update (signature_of p) params updates c.term u fit e in
      let r = reading_places params c.term in
      renamed_all_true s r places (way_lits (signature_of p) u.branches (way c.branch c.fails))
      (all_fits_within (signature_of p) (length r) (way_lits (signature_of p) u.branches (way c.branch c.fails)) (way_lits_fit p (length r) u.branches c.branch c.fails (conditions_from p (length r) fits.sort u.branches fits.branches) is))
      ∙ ap (λ qs. all_true s qs (way_lits (signature_of p) u.branches (way c.branch c.fails))) (along_reading params places c.term)

  pub way_counts : (c : Choice) (u : Update) → update_of updates (target_of c.term) ≡ Some u → IsTrue (place_fits (length places) c.term) → IsWay u.branches c.branch c.fails
      → IsTrue (all_true s places (lits_by (signature_of p) (Some u) params c)) → counting s (update_places (along params places) places c.term) u ≡ way_value u c.branch
  way_counts c u e place is h =
      let fits = term_update (signature_of p) params updates c.term u fit e in
      let qs = along (reading_places params c.term) places in
      let at : qs ≡ update_places (along params places) places c.term = along_reading params places c.term in
      let size : length qs ≡ length (reading_places params c.term) = length_at c.term in
      subst (λ xs. counting s xs u ≡ way_value u c.branch) at
      (counts_from p s qs state (reading_processes c.term place) u.branches u.last c.branch c.fails
      (subst (λ n. IsTrue (conditions_fit p n u.branches)) (sym size) (conditions_from p (length (reading_places params c.term)) fits.sort u.branches fits.branches)) is
      (subst (λ xs. IsTrue (all_true s xs (way_lits (signature_of p) u.branches (way c.branch c.fails)))) (sym at) (sym (way_lits_true c u e is) ∙ h)))

  -- the term takes the choice's value
  pub settles : (pick : Slot → Option Val) (c : Choice) → IsTrue (place_fits (length places) c.term) → TakesWay (update_of updates (target_of c.term)) c → IsTrue (all_true s places (choice_lits (signature_of p) updates params c))
      → PickAgrees s places updates params pick c
      → value_after s (along params places) updates pick places c.term ≡ meaning_of s places (taken_value updates params c) (term_value s places c.term)
  settles pick c place is h agrees = by (update_of updates (target_of c.term)) refl is h agrees
    where
      old : Val
      old = term_value s places c.term

      by : (o : Option Update) → update_of updates (target_of c.term) ≡ o → TakesWay o c → IsTrue (all_true s places (lits_by (signature_of p) o params c))
          → (is_any (value_by o params c) ≡ true → unwrap_or (pick (slot_of places c.term)) (term_value s places c.term) ≡ meaning_of s places (taken c.pick (value_by o params c)) (term_value s places c.term))
          → updated s (update_places (along params places) places c.term) o (pick (slot_of places c.term)) (term_value s places c.term) ≡ meaning_of s places (taken c.pick (value_by o params c)) (term_value s places c.term)
      by None e is h agrees = refl
      by (Some u) e is h agrees =
          let counts = way_counts c u e place is h in
          let r = reading_places params c.term in
          let v = way_value u c.branch in
          let fits = term_update (signature_of p) params updates c.term u fit e in
          let qs = update_places (along params places) places c.term in
          ap (λ w. settled s qs w (pick (slot_of places c.term)) (term_value s places c.term)) counts
          ∙ split u (is_any v) refl (fits_value_within (signature_of p) (length r) fits.sort v (way_value_fits (signature_of p) (length r) c.term u c.branch fits)) agrees
        where
          split : (u : Update) (b : Bool) → is_any (way_value u c.branch) ≡ b → IsTrue (value_within (length (reading_places params c.term)) (way_value u c.branch))
              → (is_any (renamed_value (reading_places params c.term) (way_value u c.branch)) ≡ true → unwrap_or (pick (slot_of places c.term)) (term_value s places c.term) ≡ meaning_of s places (taken c.pick (renamed_value (reading_places params c.term) (way_value u c.branch))) (term_value s places c.term))
              → settled s (update_places (along params places) places c.term) (way_value u c.branch) (pick (slot_of places c.term)) (term_value s places c.term)
              ≡ meaning_of s places (taken c.pick (renamed_value (reading_places params c.term) (way_value u c.branch))) (term_value s places c.term)
          split u true e within agrees =
              let any = any_is (way_value u c.branch) e in
              ap (λ w. settled s (update_places (along params places) places c.term) w (pick (slot_of places c.term)) (term_value s places c.term)) any
              ∙ agrees (renamed_any (reading_places params c.term) (way_value u c.branch) ∙ e)
          split u false e within agrees =
              settled_known s (update_places (along params places) places c.term) (way_value u c.branch) (pick (slot_of places c.term)) (term_value s places c.term) e
              ∙ ap (λ qs. meaning_of s qs (way_value u c.branch) (term_value s places c.term)) (sym (along_reading params places c.term))
              ∙ sym (renamed_meaning s (reading_places params c.term) places (way_value u c.branch) (term_value s places c.term) within)
              ∙ ap (λ w. meaning_of s places w (term_value s places c.term)) (sym (taken_known c.pick (renamed_value (reading_places params c.term) (way_value u c.branch)) (renamed_any (reading_places params c.term) (way_value u c.branch) ∙ e)))

-- ---- the choice of a term
pub record HasChoice (updates : List Update) (params : List ℕ) (choices : List Choice) (t : Term) : Type 0 where
  pub its : Choice
  pub inside : Has choices its
  pub term : its.term ≡ t
  pub value : values_by updates params choices t ≡ taken_value updates params its

pub choice_found : (updates : List Update) (params : List ℕ) (choices : List Choice) (t : Term) → IsTrue (has_choice choices t) → HasChoice updates params choices t
choice_found updates params [] t h = cc
choice_found updates params (c ∷ cs) t h = by (same_term c.term t) refl h (choice_found updates params cs t)
  where
    by : (b : Bool) → same_term c.term t ≡ b → IsTrue (b || has_choice cs t) → (IsTrue (has_choice cs t) → HasChoice updates params cs t) → HasChoice updates params (c ∷ cs) t
    by true e h rest = record {
      its = c;
      inside = inl refl;
      term = same_term_is c.term t e;
      value = ap (λ b. if b then taken_value updates params c else values_by updates params cs t) e;
    }
    by false e h rest =
        let found = rest h in
        record {
          its = found.its;
          inside = inr found.inside;
          term = found.term;
          value = ap (λ b. if b then taken_value updates params c else values_by updates params cs t) e ∙ found.value;
        }
