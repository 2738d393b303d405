-- What pieces keep: their literals fit, at most three places are new, and bounds grow by at most two constants.
use Rattle.std.proofs.Common.{◌≡◌, ℕ, suc, zero, ◌+◌, ◌*◌, ◌≤◌, Bool, true, List, [], ◌∷◌, ◌++◌, length, take, Option, Some, None, refl, subst, arith, inl, inr, ℤ, pos, ◌-ℤ◌}
use Rattle.std.specs.Prelude.{map, ◌&&◌, IsTrue, nat_le, unsigned_abs, slice_get, slice_index_or}
use Rattle.std.specs.List.{flat_map, list_all}
use Rattle.std.proofs.lemmas.Int.{ints}
use Rattle.cub_proto.specs.declared.literal.Sort.{Sort}
use Rattle.cub_proto.specs.declared.literal.Lit.{Lit}
use Rattle.cub_proto.specs.declared.literal.Lit.TheVariants.{FinIn, FinEq, FinNe, ProcEq, ProcNe, Diff}
use Rattle.cub_proto.specs.declared.transition.Branch.{Branch}
use Rattle.cub_proto.specs.declared.transition.Update.{Update}
use Rattle.cub_proto.specs.declared.transition.Transition.{Transition}
use Rattle.cub_proto.specs.declared.protocol.Protocol.{Protocol}
use Rattle.cub_proto.specs.Signature.{Signature}
use Rattle.cub_proto.specs.StateOf.{signature_of}
use Rattle.cub_proto.specs.Fits.{literal_fits, is_bounded, greatest_bound, greatest_constant, conjunction_fits, branch_fits, value_fits, update_fits}
use Rattle.cub_proto.specs.Negation.{negated}
use Rattle.cub_proto.specs.Effect.{update_of}
use Rattle.cub_cube.specs.declared.cube.Cube.{Cube}
use Rattle.cub_cube.specs.Mentions.{terms_in}
use Rattle.cub_cube.specs.Rename.{renamed, renamed_all}
use Rattle.cub_cube.specs.Replace.{constant}
use Rattle.cub_cube.specs.Step.{target_of}
use Rattle.cub_base.proofs.Bools.{and_left, and_right, and_both, le_is, is_le}
use Rattle.cub_cube.proofs.Bounds.{fold_bounded, replaced_bounded}
use Rattle.cub_cube.proofs.Form.{fold_fits}
use Rattle.cub_base.proofs.Members.{Has}
use Rattle.updates.specs.declared.choice.Choice.{Choice}
use Rattle.updates.specs.Ways.{way, way_lits, condition, failing}
use Rattle.updates.specs.Chosen.{reading_places, lits_by, choice_lits, values_by}
use Rattle.updates.specs.Through.{literal_before}
use Rattle.updates.proofs.StepLemmas.{all_member, values_can}
use Rattle.updates.proofs.Fitting.{term_update}
use Rattle.piece_choices.specs.declared.piece.Piece.{Piece}
use Rattle.piece_choices.specs.Placings.{free_places, new_places}
use Rattle.piece_choices.specs.Selections.{Selection}
use Rattle.piece_choices.specs.Conjunction.{guard_lits, permissions, conjunction}
use Rattle.piece_choices.specs.Pieces.{candidates}
use Rattle.piece_choices.proofs.SelectionLemmas.{IsSelection}
use Rattle.piece_choices.proofs.Fitting.{its_transition, selection_fits, cube_narrow, updates_at, parts_of, has_choices, params_within, params_below, placed}
use Rattle.piece_choices.proofs.Candidates.{candidate_is}

-- ---- the literals fit
pub piece_fits : (p : Protocol) (c : Cube) (x : Piece) → IsTrue (list_all (literal_fits (signature_of p) c.width) c.lits) → Has (candidates p c) x → IsTrue (list_all (literal_fits (signature_of p) x.cube.width) x.cube.lits)
piece_fits p c x fits h =
    let is = candidate_is p c x h in
    subst (λ y. IsTrue (list_all (literal_fits (signature_of p) y.cube.width) y.cube.lits)) is.same
    (fold_fits (signature_of p) is.selected.picking.width [] (conjunction (signature_of p) is.transition is.selected c.lits) refl
    (selection_fits p is.transition (its_transition p is.number is.transition is.at) c.width c.lits fits is.selected is.is))

-- ---- bounds
bounded_wider : (small large : ℕ) (l : Lit) → small ≤ large → IsTrue (is_bounded small l) → IsTrue (is_bounded large l)
bounded_wider small large (FinIn t mask) h b = refl
bounded_wider small large (FinEq u v) h b = refl
bounded_wider small large (FinNe u v) h b = refl
bounded_wider small large (ProcEq u v) h b = refl
bounded_wider small large (ProcNe u v) h b = refl
bounded_wider small large (Diff u v bound) h b = let le = le_is (unsigned_abs bound) small b in is_le (unsigned_abs bound) large (omega arith)

pub all_wider : (small large : ℕ) (lits : List Lit) → small ≤ large → IsTrue (list_all (is_bounded small) lits) → IsTrue (list_all (is_bounded large) lits)
all_wider small large [] h b = refl
all_wider small large (l ∷ ls) h b =
    and_both (is_bounded large l) (list_all (is_bounded large) ls) (bounded_wider small large l h (and_left (is_bounded small l) (list_all (is_bounded small) ls) b)) (all_wider small large ls h (and_right (is_bounded small l) (list_all (is_bounded small) ls) b))

pub renamed_bounded : (limit : ℕ) (r : List ℕ) (lits : List Lit) → IsTrue (list_all (is_bounded limit) lits) → IsTrue (list_all (is_bounded limit) (renamed_all r lits))
renamed_bounded limit r [] h = refl
renamed_bounded limit r (l ∷ ls) h =
    and_both (is_bounded limit (renamed r l)) (list_all (is_bounded limit) (renamed_all r ls)) (one l (and_left (is_bounded limit l) (list_all (is_bounded limit) ls) h)) (renamed_bounded limit r ls (and_right (is_bounded limit l) (list_all (is_bounded limit) ls) h))
  where
    one : (l : Lit) → IsTrue (is_bounded limit l) → IsTrue (is_bounded limit (renamed r l))
    one (FinIn t mask) b = refl
    one (FinEq u v) b = refl
    one (FinNe u v) b = refl
    one (ProcEq u v) b = refl
    one (ProcNe u v) b = refl
    one (Diff u v bound) b = b

turned_size : (b : ℤ) (limit : ℕ) → unsigned_abs b ≤ limit → unsigned_abs ((pos 0 -ℤ b) -ℤ pos 1) ≤ limit + 1
turned_size b limit h = grind (arith, ints)

pub negated_bounded : (sig : Signature) (limit : ℕ) (l : Lit) → IsTrue (is_bounded limit l) → IsTrue (is_bounded (limit + 1) (negated sig l))
negated_bounded sig limit (FinIn t mask) b = refl
negated_bounded sig limit (FinEq u v) b = refl
negated_bounded sig limit (FinNe u v) b = refl
negated_bounded sig limit (ProcEq u v) b = refl
negated_bounded sig limit (ProcNe u v) b = refl
negated_bounded sig limit (Diff u v bound) b = is_le (unsigned_abs ((pos 0 -ℤ bound) -ℤ pos 1)) (limit + 1) (turned_size bound limit (le_is (unsigned_abs bound) limit b))

pub all_append : {A : Type 0} (test : A → Bool) (xs ys : List A) → IsTrue (list_all test xs) → IsTrue (list_all test ys) → IsTrue (list_all test (xs ++ ys))
all_append test [] ys h k = k
all_append test (x ∷ xs) ys h k = and_both (test x) (list_all test (xs ++ ys)) (and_left (test x) (list_all test xs) h) (all_append test xs ys (and_right (test x) (list_all test xs) h) k)

conjunction_bounded : (sig : Signature) (width : ℕ) (lits : List Lit) → IsTrue (conjunction_fits sig width lits) → IsTrue (list_all (is_bounded greatest_bound) lits)
conjunction_bounded sig width lits h = and_right (nat_le (length lits) 64 && list_all (literal_fits sig width) lits) (list_all (is_bounded greatest_bound) lits) h

pub alternative_bounded : (sig : Signature) (width : ℕ) (conjs : List (List Lit)) (n : ℕ) → IsTrue (list_all (conjunction_fits sig width) conjs) → IsTrue (list_all (is_bounded greatest_bound) (slice_index_or conjs n []))
alternative_bounded sig width [] n h = refl
alternative_bounded sig width (c ∷ cs) zero h = conjunction_bounded sig width c (and_left (conjunction_fits sig width c) (list_all (conjunction_fits sig width) cs) h)
alternative_bounded sig width (c ∷ cs) (suc n) h = alternative_bounded sig width cs n (and_right (conjunction_fits sig width c) (list_all (conjunction_fits sig width) cs) h)

permissions_bounded : (sig : Signature) (width : ℕ) (t : Transition) (params places ns : List ℕ) → IsTrue (list_all (conjunction_fits sig width) t.others) → IsTrue (list_all (is_bounded greatest_bound) (permissions t params places ns))
permissions_bounded sig width t params [] ns h = refl
permissions_bounded sig width t params (q ∷ qs) [] h = refl
permissions_bounded sig width t params (q ∷ qs) (n ∷ ns) h =
    all_append (is_bounded greatest_bound) (renamed_all (params ++ q ∷ []) (slice_index_or t.others n [])) (permissions t params qs ns)
    (renamed_bounded greatest_bound (params ++ q ∷ []) (slice_index_or t.others n []) (alternative_bounded sig width t.others n h)) (permissions_bounded sig width t params qs ns h)

pub condition_bounded : (sig : Signature) (width : ℕ) (sort : Sort) (branches : List Branch) (n : ℕ) → IsTrue (list_all (branch_fits sig width sort) branches) → IsTrue (list_all (is_bounded greatest_bound) (condition branches n))
condition_bounded sig width sort [] n h = refl
condition_bounded sig width sort (b ∷ bs) zero h =
    conjunction_bounded sig width b.cond (and_left (conjunction_fits sig width b.cond) (value_fits sig width sort b.value) (and_left (branch_fits sig width sort b) (list_all (branch_fits sig width sort) bs) h))
condition_bounded sig width sort (b ∷ bs) (suc n) h = condition_bounded sig width sort bs n (and_right (branch_fits sig width sort b) (list_all (branch_fits sig width sort) bs) h)

pub item_bounded : (limit : ℕ) (lits : List Lit) (f : ℕ) → IsTrue (list_all (is_bounded limit) lits) → IsTrue (is_bounded limit (slice_index_or lits f (constant true)))
item_bounded limit [] f h = is_le 0 limit (omega arith)
item_bounded limit (l ∷ ls) zero h = and_left (is_bounded limit l) (list_all (is_bounded limit) ls) h
item_bounded limit (l ∷ ls) (suc f) h = item_bounded limit ls f (and_right (is_bounded limit l) (list_all (is_bounded limit) ls) h)

failing_bounded : (sig : Signature) (width : ℕ) (sort : Sort) (branches : List Branch) (n : ℕ) (fails : List ℕ) → IsTrue (list_all (branch_fits sig width sort) branches) → IsTrue (list_all (is_bounded (greatest_bound + 1)) (failing sig (take n branches) fails))
failing_bounded sig width sort branches zero fails h = refl
failing_bounded sig width sort [] (suc n) fails h = refl
failing_bounded sig width sort (b ∷ bs) (suc n) [] h = refl
failing_bounded sig width sort (b ∷ bs) (suc n) (f ∷ fs) h =
    and_both (is_bounded (greatest_bound + 1) (negated sig (slice_index_or b.cond f (constant true)))) (list_all (is_bounded (greatest_bound + 1)) (failing sig (take n bs) fs))
    (negated_bounded sig greatest_bound (slice_index_or b.cond f (constant true)) (item_bounded greatest_bound b.cond f
    (conjunction_bounded sig width b.cond (and_left (conjunction_fits sig width b.cond) (value_fits sig width sort b.value) (and_left (branch_fits sig width sort b) (list_all (branch_fits sig width sort) bs) h)))))
    (failing_bounded sig width sort bs n fs (and_right (branch_fits sig width sort b) (list_all (branch_fits sig width sort) bs) h))

choice_bounded : (p : Protocol) (updates : List Update) (params : List ℕ) (c : Choice) → IsTrue (list_all (update_fits (signature_of p) (length params)) updates) → IsTrue (list_all (is_bounded (greatest_bound + 1)) (choice_lits (signature_of p) updates params c))
choice_bounded p updates params c fit = by (update_of updates (target_of c.term)) refl
  where
    by : (o : Option Update) → update_of updates (target_of c.term) ≡ o → IsTrue (list_all (is_bounded (greatest_bound + 1)) (lits_by (signature_of p) o params c))
    by None e = refl
    by (Some u) e =
        let fits = term_update (signature_of p) params updates c.term u fit e in
        let width = length (reading_places params c.term) in
        renamed_bounded (greatest_bound + 1) (reading_places params c.term) (way_lits (signature_of p) u.branches (way c.branch c.fails))
        (all_append (is_bounded (greatest_bound + 1)) (condition u.branches c.branch) (failing (signature_of p) (take c.branch u.branches) c.fails)
        (all_wider greatest_bound (greatest_bound + 1) (condition u.branches c.branch) (omega arith) (condition_bounded (signature_of p) width fits.sort u.branches c.branch fits.branches))
        (failing_bounded (signature_of p) width fits.sort u.branches c.branch c.fails fits.branches))

flat_bounded : (limit : ℕ) (f : Choice → List Lit) (cs : List Choice) → ((c : Choice) → IsTrue (list_all (is_bounded limit) (f c))) → IsTrue (list_all (is_bounded limit) (flat_map f cs))
flat_bounded limit f [] each = refl
flat_bounded limit f (c ∷ cs) each = all_append (is_bounded limit) (f c) (flat_map f cs) (each c) (flat_bounded limit f cs each)

map_bounded : (limit : ℕ) (f : Lit → Lit) (ls : List Lit) → ((l : Lit) → Has ls l → IsTrue (is_bounded limit (f l))) → IsTrue (list_all (is_bounded limit) (map f ls))
map_bounded limit f [] each = refl
map_bounded limit f (l ∷ ls) each = and_both (is_bounded limit (f l)) (list_all (is_bounded limit) (map f ls)) (each l (inl refl)) (map_bounded limit f ls (λ m h. each m (inr h)))

pub piece_bounded : (p : Protocol) (c : Cube) (x : Piece) (limit : ℕ) → IsTrue (list_all (literal_fits (signature_of p) c.width) c.lits) → IsTrue (list_all (is_bounded limit) c.lits) → greatest_bound ≤ limit → Has (candidates p c) x
    → IsTrue (list_all (is_bounded (limit + 2 * greatest_constant)) x.cube.lits)
piece_bounded p c x limit fits bounded large h =
    let is = candidate_is p c x h in
    subst (λ y. IsTrue (list_all (is_bounded (limit + 2 * greatest_constant)) y.cube.lits)) is.same
    (fold_bounded (signature_of p) (limit + 2 * greatest_constant) [] (conjunction (signature_of p) is.transition is.selected c.lits) refl (raw is.number is.transition is.at is.selected is.is))
  where
    raw : (number : ℕ) (t : Transition) → slice_get p.transitions number ≡ Some t → (y : Selection) → IsSelection (signature_of p) t c.width (terms_in c.lits) y → IsTrue (list_all (is_bounded (limit + 2 * greatest_constant)) (conjunction (signature_of p) t y c.lits))
    raw number t at y is =
        let sig = signature_of p in
        let big = limit + 2 * greatest_constant in
        let test = is_bounded big in
        let fit = its_transition p number t at in
        let params = y.placing.params in
        let wide = y.picking.width in
        let own = placed p t fit c.width c.lits fits y is in
        let guards = guard_lits t params y.guard in
        let early = permissions t params (free_places params y.placing.width) y.others in
        let chosen = flat_map (choice_lits sig t.updates params) y.picking.choices in
        let late = permissions t params (new_places y.placing.width wide) y.late in
        let before = map (literal_before sig t.updates params y.picking.choices) c.lits in
        all_append test guards (early ++ (chosen ++ (late ++ before))) (all_wider greatest_bound big guards (omega arith) (renamed_bounded greatest_bound params (slice_index_or t.guard y.guard []) (alternative_bounded sig t.params t.guard y.guard fit.guard)))
        (all_append test early (chosen ++ (late ++ before)) (all_wider greatest_bound big early (omega arith) (permissions_bounded sig (t.params + 1) t params (free_places params y.placing.width) y.others fit.others))
        (all_append test chosen (late ++ before)
        (all_wider (greatest_bound + 1) big chosen (omega arith) (flat_bounded (greatest_bound + 1) (choice_lits sig t.updates params) y.picking.choices (λ d. choice_bounded p t.updates params d (updates_at p t fit c.width c.lits fits y is))))
        (all_append test late before (all_wider greatest_bound big late (omega arith) (permissions_bounded sig (t.params + 1) t params (new_places y.placing.width wide) y.late fit.others))
        (map_bounded big (literal_before sig t.updates params y.picking.choices) c.lits
        (λ l inside.
        let lit_fits = all_member (literal_fits sig c.width) c.lits l fits inside in
        replaced_bounded p c.width wide limit (values_by t.updates params y.picking.choices) l lit_fits
        (values_can p t.updates params (updates_at p t fit c.width c.lits fits y is) c.width wide (cube_narrow p t fit c.width c.lits fits y is) (params_within p t fit params own.one_each wide (params_below p t fit c.width c.lits fits y is))
        y.picking.choices l lit_fits (parts_of p t fit c.width c.lits fits y is) (has_choices p t fit c.width c.lits fits y is l inside))
        (all_member (is_bounded limit) c.lits l bounded inside))))))
