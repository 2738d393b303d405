-- The literals of each selection fit its width.
use Rattle.std.proofs.Common.{◌≡◌, ℕ, suc, zero, ◌+◌, ◌-◌, ◌<◌, ◌≤◌, Bool, List, [], ◌∷◌, ◌++◌, length, get_or, Some, refl, sym, ap, ◌∙◌, subst, arith, inl, inr}
use Rattle.std.specs.Prelude.{map, not, ◌&&◌, IsTrue, All, nat_le, slice_get, slice_index_or, count_by}
use Rattle.std.specs.List.{flat_map, list_all, range_with_len, AllZip}
use Rattle.std.proofs.lemmas.List.{length_push}
use Rattle.std.proofs.lemmas.List.Elements.{All-push}
use Rattle.cub_base.specs.Name.{is_declarable}
use Rattle.cub_proto.specs.declared.literal.Lit.{Lit}
use Rattle.cub_proto.specs.declared.transition.Transition.{Transition}
use Rattle.cub_proto.specs.declared.protocol.Protocol.{Protocol}
use Rattle.cub_proto.specs.Signature.{Signature}
use Rattle.cub_proto.specs.StateOf.{signature_of}
use Rattle.cub_proto.specs.Fits.{literal_fits, conjunction_fits, formula_fits, update_fits, transition_fits, targets_rise, picks_process}
use Rattle.cub_cube.specs.Mentions.{terms_of, terms_in}
use Rattle.cub_cube.specs.Rename.{renamed_all}
use Rattle.cub_base.proofs.Bools.{and_left, and_right, and_both}
use Rattle.cub_base.proofs.Members.{Has, has_all}
use Rattle.cub_cube.proofs.RenamedFits.{renamed_all_fits}
use Rattle.cub_cube.proofs.Replaced.{replaced_fits_wide}
use Rattle.updates.specs.declared.choice.Choice.{Choice}
use Rattle.updates.specs.Chosen.{choice_lits, values_by}
use Rattle.updates.specs.Through.{literal_before, has_choice}
use Rattle.updates.proofs.Products.{range_has, below_has}
use Rattle.updates.proofs.WayLemmas.{all_at}
use Rattle.updates.proofs.Fitting.{conjunction_literals}
use Rattle.updates.proofs.ChoiceLemmas.{choice_lits_fit}
use Rattle.updates.proofs.StepLemmas.{all_member, member_all, ChoiceParts, values_can}
use Rattle.piece_choices.specs.Placings.{is_among, free_places, new_places}
use Rattle.piece_choices.specs.Selections.{Selection}
use Rattle.piece_choices.specs.Conjunction.{guard_lits, permissions, conjunction}
use Rattle.piece_choices.proofs.ListLemmas.{filter_has}
use Rattle.piece_choices.proofs.PlacingLemmas.{IsPlacing, is_placing}
use Rattle.piece_choices.proofs.SelectionLemmas.{IsSelection}
use Rattle.piece_choices.proofs.Suiting.{Suits, suits_all, its_picks, its_terms, has_its_choice, lit_term, suits_parts}

-- ---- a transition of a protocol
pub record TransitionFits (p : Protocol) (t : Transition) : Type 0 where
  pub guard : IsTrue (list_all (conjunction_fits (signature_of p) t.params) t.guard)
  pub others : IsTrue (list_all (conjunction_fits (signature_of p) (t.params + 1)) t.others)
  pub updates : IsTrue (list_all (update_fits (signature_of p) t.params) t.updates)

pub transition_parts : (p : Protocol) (t : Transition) → IsTrue (transition_fits (signature_of p) t) → TransitionFits p t
transition_parts p t h =
    let sig = signature_of p in
    let a = is_declarable t.name in
    let b = nat_le (t.params + count_by (picks_process sig) t.updates) 3 in
    let g = formula_fits sig t.params t.guard in
    let o = formula_fits sig (t.params + 1) t.others in
    let u = list_all (update_fits sig t.params) t.updates in
    let r = targets_rise t.updates in
    let five = and_left (a && b && g && o && u) r h in
    let four = and_left (a && b && g && o) u five in
    let three = and_left (a && b && g) o four in
    record {
      guard = and_right (nat_le (length t.guard) 64) (list_all (conjunction_fits sig t.params) t.guard) (and_right (a && b) g three);
      others = and_right (nat_le (length t.others) 64) (list_all (conjunction_fits sig (t.params + 1)) t.others) (and_right (a && b && g) o four);
      updates = and_right (a && b && g && o) u five;
    }

pub its_transition : (p : Protocol) (number : ℕ) (t : Transition) → slice_get p.transitions number ≡ Some t → TransitionFits p t
its_transition p number t at = transition_parts p t (found p.transitions number at p.transitions_fit)
  where
    found : (ts : List Transition) (n : ℕ) → slice_get ts n ≡ Some t → All (λ x. IsTrue (transition_fits (signature_of p) x)) ts → IsTrue (transition_fits (signature_of p) t)
    found [] n e all = cc
    found (x ∷ xs) zero e all = let same : x ≡ t = cc in subst (λ y. IsTrue (transition_fits (signature_of p) y)) same (all 0 x (omega arith))
    found (x ∷ xs) (suc n) e all = found xs n e (λ k d below. all (suc k) d (omega arith))

pub alternative_fits : (sig : Signature) (width : ℕ) (conjs : List (List Lit)) (n : ℕ) → IsTrue (list_all (conjunction_fits sig width) conjs) → n < length conjs → IsTrue (list_all (literal_fits sig width) (slice_index_or conjs n []))
alternative_fits sig width conjs n h below = conjunction_literals sig width (get_or conjs n []) (all_at (conjunction_fits sig width) conjs n [] h below)

all_append : {A : Type 0} (test : A → Bool) (xs ys : List A) → IsTrue (list_all test xs) → IsTrue (list_all test ys) → IsTrue (list_all test (xs ++ ys))
all_append test [] ys h k = k
all_append test (x ∷ xs) ys h k = and_both (test x) (list_all test (xs ++ ys)) (and_left (test x) (list_all test xs) h) (all_append test xs ys (and_right (test x) (list_all test xs) h) k)

all_flat : {A B : Type 0} (test : B → Bool) (f : A → List B) (xs : List A) → ((x : A) → Has xs x → IsTrue (list_all test (f x))) → IsTrue (list_all test (flat_map f xs))
all_flat test f [] each = refl
all_flat test f (x ∷ xs) each = all_append test (f x) (flat_map f xs) (each x (inl refl)) (all_flat test f xs (λ y h. each y (inr h)))

all_map : {A B : Type 0} (test : B → Bool) (f : A → B) (xs : List A) → ((x : A) → Has xs x → IsTrue (test (f x))) → IsTrue (list_all test (map f xs))
all_map test f [] each = refl
all_map test f (x ∷ xs) each = and_both (test (f x)) (list_all test (map f xs)) (each x (inl refl)) (all_map test f xs (λ y h. each y (inr h)))

pub free_is : (params : List ℕ) (width q : ℕ) → Has (free_places params width) q → (q < width) × IsTrue (not (is_among params q))
free_is params width q h =
    let found = filter_has (λ i. not (is_among params i)) (range_with_len 0 width) q h in (below_has width q found.0, found.1)

pub new_is : (from to q : ℕ) → from ≤ to → Has (new_places from to) q → (from ≤ q) × (q < to)
new_is from to q le h = let found = range_has from (to - from) q h in (found.0, omega (arith, found.1))

module _ (p : Protocol) (t : Transition) (fit : TransitionFits p t) (params : List ℕ) (size : length params ≡ t.params) (wide : ℕ) (within : (q : ℕ) → Has params q → q < wide) where
  pub params_within : All (λ q. q < wide) params
  params_within = has_all (λ q. q < wide) params within

  pub guard_lits_fit : (n : ℕ) → n < length t.guard → IsTrue (list_all (literal_fits (signature_of p) wide) (guard_lits t params n))
  guard_lits_fit n below =
      renamed_all_fits (signature_of p) wide params params_within (slice_index_or t.guard n [])
      (subst (λ m. IsTrue (list_all (literal_fits (signature_of p) m) (slice_index_or t.guard n []))) (sym size) (alternative_fits (signature_of p) t.params t.guard n fit.guard below))

  pub permission_fits : (q n : ℕ) → q < wide → n < length t.others → IsTrue (list_all (literal_fits (signature_of p) wide) (renamed_all (params ++ q ∷ []) (slice_index_or t.others n [])))
  permission_fits q n inside below =
      renamed_all_fits (signature_of p) wide (params ++ q ∷ []) (All-push (λ i. i < wide) params q params_within inside) (slice_index_or t.others n [])
      (subst (λ m. IsTrue (list_all (literal_fits (signature_of p) m) (slice_index_or t.others n []))) (sym (length_push params q ∙ ap (λ m. m + 1) size)) (alternative_fits (signature_of p) (t.params + 1) t.others n fit.others below))

  pub permissions_fit : (places ns : List ℕ) → ((q : ℕ) → Has places q → q < wide) → AllZip (λ q n. n < length t.others) places ns → IsTrue (list_all (literal_fits (signature_of p) wide) (permissions t params places ns))
  permissions_fit [] ns inside h = refl
  permissions_fit (q ∷ qs) [] inside h = refl
  permissions_fit (q ∷ qs) (n ∷ ns) inside h =
      all_append (literal_fits (signature_of p) wide) (renamed_all (params ++ q ∷ []) (slice_index_or t.others n [])) (permissions t params qs ns)
      (permission_fits q n (inside q (inl refl)) h.0) (permissions_fit qs ns (λ i at. inside i (inr at)) h.1)

module _ (p : Protocol) (t : Transition) (fit : TransitionFits p t) (width : ℕ) (lits : List Lit) (fits : IsTrue (list_all (literal_fits (signature_of p) width) lits))
    (x : Selection) (is : IsSelection (signature_of p) t width (terms_in lits) x) where
  pub placed : IsPlacing width t.params x.placing
  placed = is_placing width t.params x.placing is.placed

  pub placing_narrow : x.placing.width ≤ x.picking.width
  placing_narrow = let picks = its_picks (signature_of p) t width (terms_in lits) x is in picks.wide

  pub cube_narrow : width ≤ x.picking.width
  cube_narrow = let a = placed.wide in let b = placing_narrow in omega arith

  pub params_below : (q : ℕ) → Has x.placing.params q → q < x.picking.width
  params_below q h = let a = placed.below q h in let b = placing_narrow in omega arith

  pub updates_at : IsTrue (list_all (update_fits (signature_of p) (length x.placing.params)) t.updates)
  updates_at = subst (λ n. IsTrue (list_all (update_fits (signature_of p) n) t.updates)) (sym placed.one_each) fit.updates

  pub choice_is : (d : Choice) → Has x.picking.choices d → Suits (signature_of p) t.updates x.placing.params x.picking.width (terms_in lits) d
  choice_is d h = suits_all (signature_of p) t width (terms_in lits) x is d h

  pub parts_of : (d : Choice) → Has x.picking.choices d → ChoiceParts p x.picking.width t.updates x.placing.params d
  parts_of d h = suits_parts p t.updates x.placing.params width x.picking.width lits d cube_narrow fits (choice_is d h)

  pub has_choices : (l : Lit) → Has lits l → IsTrue (list_all (has_choice x.picking.choices) (terms_of l))
  has_choices l at = member_all (has_choice x.picking.choices) (terms_of l)
      (λ u h. has_its_choice x.picking.choices (terms_in lits) u (its_terms (signature_of p) t width (terms_in lits) x is) (lit_term lits l u at h))

  pub before_lit_fits : (l : Lit) → Has lits l → IsTrue (literal_fits (signature_of p) x.picking.width (literal_before (signature_of p) t.updates x.placing.params x.picking.choices l))
  before_lit_fits l at =
      let own = all_member (literal_fits (signature_of p) width) lits l fits at in
      replaced_fits_wide p width x.picking.width (values_by t.updates x.placing.params x.picking.choices) l cube_narrow own
      (values_can p t.updates x.placing.params updates_at width x.picking.width cube_narrow (params_within p t fit x.placing.params placed.one_each x.picking.width params_below) x.picking.choices l own parts_of (has_choices l at))

  -- the literals of a selection fit
  pub selection_fits : IsTrue (list_all (literal_fits (signature_of p) x.picking.width) (conjunction (signature_of p) t x lits))
  selection_fits =
      let sig = signature_of p in
      let wide = x.picking.width in
      let params = x.placing.params in
      let test = literal_fits sig wide in
      let early = free_places params x.placing.width in
      let late = new_places x.placing.width wide in
      let replaced_lits = map (literal_before sig t.updates params x.picking.choices) lits in
      let chosen_lits = flat_map (choice_lits sig t.updates params) x.picking.choices in
      let narrow = placing_narrow in
      all_append test (guard_lits t params x.guard) (permissions t params early x.others ++ (chosen_lits ++ (permissions t params late x.late ++ replaced_lits))) (guard_lits_fit p t fit params placed.one_each wide params_below x.guard is.guard)
      (all_append test (permissions t params early x.others) (chosen_lits ++ (permissions t params late x.late ++ replaced_lits))
      (permissions_fit p t fit params placed.one_each wide params_below early x.others (λ q h. omega (arith, narrow, (free_is params x.placing.width q h).0)) is.others)
      (all_append test chosen_lits (permissions t params late x.late ++ replaced_lits)
      (all_flat test (choice_lits sig t.updates params) x.picking.choices
      (λ d h. choice_lits_fit p t.updates params updates_at wide (params_within p t fit params placed.one_each wide params_below) d (parts_of d h).place (parts_of d h).way))
      (all_append test (permissions t params late x.late) replaced_lits
      (permissions_fit p t fit params placed.one_each wide params_below late x.late (λ q h. (new_is x.placing.width wide q narrow h).1) is.late)
      (all_map test (literal_before sig t.updates params x.picking.choices) lits before_lit_fits))))
