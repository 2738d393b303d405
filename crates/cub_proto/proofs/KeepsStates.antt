-- A legal event leads from a state of the protocol to a state of it.
use Rattle.std.proofs.Common.{◌≡◌, ℕ, suc, ◌+◌, ◌<◌, Bool, true, false, cond, List, [], ◌∷◌, ◌++◌, length, get_or, Option, Some, None, refl, sym, ap, ◌∙◌, subst, arith, find}
use Rattle.std.specs.Prelude.{slice_get, slice_set, All, ◌&&◌, nat_le, count_by, option_map, if◌then◌else◌}
use Rattle.std.specs.List.{AllZip, list_all}
use Rattle.std.proofs.lemmas.Bool.{ltb-true, eqb-true}
use Rattle.std.proofs.lemmas.List.Elements.{All-push}
use Rattle.std.proofs.lemmas.List.{length_push, length-set}
use Rattle.std.proofs.lemmas.Option.{get_or_from_slice_get, slice_get_within}
use Rattle.cub_base.specs.Name.{is_declarable}
use Rattle.cub_proto.specs.declared.literal.Sort.{Sort}
use Rattle.cub_proto.specs.declared.literal.PSide.{PSide}
use Rattle.cub_proto.specs.declared.literal.Value.{Value}
use Rattle.cub_proto.specs.declared.transition.Branch.{Branch}
use Rattle.cub_proto.specs.declared.transition.Target.{Target}
use Rattle.cub_proto.specs.declared.transition.Update.{Update}
use Rattle.cub_proto.specs.declared.transition.Transition.{Transition}
use Rattle.cub_proto.specs.declared.state.Slot.{Slot}
use Rattle.cub_proto.specs.declared.state.Val.{Val}
use Rattle.cub_proto.specs.declared.state.Val.TheVariants.{Con, Proc, Int}
use Rattle.cub_proto.specs.declared.event.Event.{Event}
use Rattle.cub_proto.specs.declared.event.Event.TheVariants.{Crash, Fire}
use Rattle.cub_proto.specs.declared.protocol.Decl.{Decl}
use Rattle.cub_proto.specs.declared.protocol.Protocol.{Protocol}
use Rattle.cub_proto.specs.Configuration.{Configuration, process_count, is_alive, killed}
use Rattle.cub_proto.specs.Signature.{Signature, declared_sort, target_sort}
use Rattle.cub_proto.specs.StateOf.{IsStateOf, IsOfSort, AreCells, signature_of}
use Rattle.cub_proto.specs.Truth.{all_true, process_at, process_of}
use Rattle.cub_proto.specs.Fits.{process_side_fits, value_fits, branch_fits, conjunction_fits, update_width, update_fits, update_fits_sort, transition_fits, formula_fits, picks_process, targets_rise}
use Rattle.cub_base.specs.Numbered.{map_from}
use Rattle.cub_proto.specs.Effect.{chosen, settled, counting, updated, same_target, update_of, global_after, cell_after, cells_after, fired, picked}
use Rattle.cub_proto.specs.Legal.{IsLegal, MayFire, TakesPick, after, fired_by}
use Rattle.cub_base.proofs.Bools.{and_left, and_right}
use Rattle.cub_base.proofs.Elements.{all_from}
use Rattle.cub_base.proofs.Numbered.{length-map_from, zip_map_from, all_map_from}
use Rattle.cub_proto.proofs.StateValues.{alive_within, sort_is, global_value, fitting_value}

-- what holds of each branch's value and of the last one holds of the one that is chosen
chosen_fits : (Q : Value → Type 0) (s : Configuration) (places : List ℕ) (branches : List Branch) (last : Value)
    → All (λ b. Q b.value) branches → Q last → Q (chosen s places branches last)
chosen_fits Q s places [] last each end = end
chosen_fits Q s places (b ∷ branches) last each end =
    elim (all_true s places b.cond) as (λ v. Q (if v then b.value else chosen s places branches last)) [
      | true ↦ each 0 b (omega arith)
      | false ↦ chosen_fits Q s places branches last (λ k d below. each (suc k) d (omega arith)) end
    ]

same_target_is : (a b : Target) → same_target a b ≡ true → a ≡ b
same_target_is (Target.Global g) (Target.Global h) e = let same : g ≡ h = eqb-true g h e in ap (λ n. Target.Global n) same
same_target_is (Target.Global g) (Target.Array a) e = cc
same_target_is (Target.Array a) (Target.Global g) e = cc
same_target_is (Target.Array a) (Target.Array b) e = let same : a ≡ b = eqb-true a b e in ap (λ n. Target.Array n) same

-- the update that is found fits, and is that of the target
found_fits : (sig : Signature) (params : ℕ) (updates : List Update) (target : Target) (u : Update)
    → list_all (update_fits sig params) updates ≡ true → update_of updates target ≡ Some u → (update_fits sig params u ≡ true) × (u.target ≡ target)
found_fits sig params [] target u fits is = cc
found_fits sig params (v ∷ vs) target u fits is =
    split (λ here. found_fits sig params vs target u (and_right (update_fits sig params v) (list_all (update_fits sig params) vs) fits) here) (same_target v.target target) refl is
  where
    split : (find (λ w. same_target w.target target) vs ≡ Some u → (update_fits sig params u ≡ true) × (u.target ≡ target)) → (b : Bool) → same_target v.target target ≡ b
        → cond b (Some v) (find (λ w. same_target w.target target) vs) ≡ Some u → (update_fits sig params u ≡ true) × (u.target ≡ target)
    split rest true e here =
        let same : v ≡ u = cc in
        subst (λ w. (update_fits sig params w ≡ true) × (w.target ≡ target)) same
        (and_left (update_fits sig params v) (list_all (update_fits sig params) vs) fits, same_target_is v.target target e)
    split rest false e here = rest here

-- the value that counts is of the update's sort
counting_fits : (sig : Signature) (s : Configuration) (places : List ℕ) (width : ℕ) (sort : Sort) (u : Update)
    → update_fits_sort sig width (Some sort) u ≡ true → value_fits sig width sort (counting s places u) ≡ true
counting_fits sig s places width sort u fits =
    let few = nat_le (length u.branches) 64 in
    let each = list_all (branch_fits sig width sort) u.branches in
    let front = and_left (few && each) (value_fits sig width sort u.last) fits in
    let branches = all_from (branch_fits sig width sort) u.branches (and_right few each front) in
    chosen_fits (λ v. value_fits sig width sort v ≡ true) s places u.branches u.last
    (λ k d below. and_right (conjunction_fits sig width (get_or u.branches k d).cond) (value_fits sig width sort (get_or u.branches k d).value) (branches k d below))
    (and_right (few && each) (value_fits sig width sort u.last) fits)

module _ (p : Protocol) (s : Configuration) (state : IsStateOf p s) where
  process_side_within : (places : List ℕ) (side : PSide) → All (λ i. i < process_count s) places → process_side_fits (signature_of p) (length places) side ≡ true → process_at s places side < process_count s
  process_side_within places (PSide.Global g) processes fits = process_value (get_or s.globals g (Con 0)) (global_value p s state g Sort.Proc (sort_is (declared_sort p.globals g) Sort.Proc fits))
    where
      process_value : (v : Val) → IsOfSort (signature_of p) (process_count s) Sort.Proc v → process_of v < process_count s
      process_value (Con c) h = absurd h
      process_value (Proc i) h = h
      process_value (Int m) h = absurd h
  process_side_within places (PSide.Place q) processes fits = processes q 0 (ltb-true q (length places) fits)

  -- what a value of the sort settles on is of the sort
  settled_of_sort : (places : List ℕ) (sort : Sort) (value : Value) (pick : Option Val) (old : Val) → All (λ i. i < process_count s) places → value_fits (signature_of p) (length places) sort value ≡ true
      → IsOfSort (signature_of p) (process_count s) sort old → ((v : Val) → pick ≡ Some v → IsOfSort (signature_of p) (process_count s) sort v)
      → IsOfSort (signature_of p) (process_count s) sort (settled s places value pick old)
  settled_of_sort places (Sort.Fin k) (Value.Con c) pick old processes fits was picks = ltb-true c _ fits
  settled_of_sort places (Sort.Fin k) (Value.Read t) pick old processes fits was picks = fitting_value p s state places t (Sort.Fin k) processes fits
  settled_of_sort places (Sort.Fin k) (Value.Proc side) pick old processes fits was picks = cc
  settled_of_sort places (Sort.Fin k) (Value.Sum base add) pick old processes fits was picks = cc
  settled_of_sort places (Sort.Fin k) Value.Any None old processes fits was picks = was
  settled_of_sort places (Sort.Fin k) Value.Any (Some v) old processes fits was picks = picks v refl
  settled_of_sort places Sort.Proc (Value.Con c) pick old processes fits was picks = cc
  settled_of_sort places Sort.Proc (Value.Read t) pick old processes fits was picks = cc
  settled_of_sort places Sort.Proc (Value.Proc side) pick old processes fits was picks = process_side_within places side processes fits
  settled_of_sort places Sort.Proc (Value.Sum base add) pick old processes fits was picks = cc
  settled_of_sort places Sort.Proc Value.Any None old processes fits was picks = was
  settled_of_sort places Sort.Proc Value.Any (Some v) old processes fits was picks = picks v refl
  settled_of_sort places Sort.Int (Value.Con c) pick old processes fits was picks = cc
  settled_of_sort places Sort.Int (Value.Read t) pick old processes fits was picks = cc
  settled_of_sort places Sort.Int (Value.Proc side) pick old processes fits was picks = cc
  settled_of_sort places Sort.Int (Value.Sum base add) pick old processes fits was picks = tt
  settled_of_sort places Sort.Int Value.Any pick old processes fits was picks = cc

  updated_of_sort : (places : List ℕ) (sort : Sort) (update : Option Update) (pick : Option Val) (old : Val) → All (λ i. i < process_count s) places
      → ((u : Update) → update ≡ Some u → value_fits (signature_of p) (length places) sort (counting s places u) ≡ true)
      → IsOfSort (signature_of p) (process_count s) sort old → ((v : Val) → pick ≡ Some v → IsOfSort (signature_of p) (process_count s) sort v)
      → IsOfSort (signature_of p) (process_count s) sort (updated s places update pick old)
  updated_of_sort places sort None pick old processes fits was picks = was
  updated_of_sort places sort (Some u) pick old processes fits was picks =
      settled_of_sort places sort (counting s places u) pick old processes (fits u refl) was picks

  -- a pick is of the sort that its slot is declared with
  pick_of_sort : (places : List ℕ) (update : Option Update) (sort : Option Sort) (v : Val) (its : Sort) → TakesPick p s places update sort v → sort ≡ Some its → IsOfSort (signature_of p) (process_count s) its v
  pick_of_sort places update sort v its takes is =
      let same : takes.its_sort ≡ its = let a = takes.is_sort in cc in
      subst (λ x. IsOfSort (signature_of p) (process_count s) x v) same takes.pickable.of_sort

  module _ (t : Transition) (fits : transition_fits (signature_of p) t ≡ true) (params : List ℕ) (pick : Slot → Option Val) (fires : MayFire p s t params pick) where
    updates_fit : list_all (update_fits (signature_of p) t.params) t.updates ≡ true
    updates_fit =
        let sig = signature_of p in
        let front = is_declarable t.name && nat_le (t.params + count_by (picks_process sig) t.updates) 3 && formula_fits sig t.params t.guard && formula_fits sig (t.params + 1) t.others in
        and_right front (list_all (update_fits sig t.params) t.updates)
        (and_left (front && list_all (update_fits sig t.params) t.updates) (targets_rise t.updates) fits)

    params_within : All (λ i. i < process_count s) params
    params_within = λ k d below. alive_within s (get_or params k d) (fires.parameters.alive k d below)

    -- the counting value of a target's update is of its sort
    value_counts : (target : Target) (sort : Sort) (places : List ℕ) → target_sort (signature_of p) target ≡ Some sort → length places ≡ update_width t.params target
        → (u : Update) → update_of t.updates target ≡ Some u → value_fits (signature_of p) (length places) sort (counting s places u) ≡ true
    value_counts target sort places is wide u found =
        let here = found_fits (signature_of p) t.params t.updates target u updates_fit found in
        let at : update_fits_sort (signature_of p) (update_width t.params target) (target_sort (signature_of p) target) u ≡ true =
        subst (λ x. update_fits_sort (signature_of p) (update_width t.params x) (target_sort (signature_of p) x) u ≡ true) here.1 here.0 in
        let sorted : update_fits_sort (signature_of p) (update_width t.params target) (Some sort) u ≡ true =
        subst (λ x. update_fits_sort (signature_of p) (update_width t.params target) x u ≡ true) is at in
        subst (λ n. value_fits (signature_of p) n sort (counting s places u) ≡ true) (sym wide)
        (counting_fits (signature_of p) s places (update_width t.params target) sort u sorted)

    global_stays : (g : ℕ) (d : Decl) (old : Val) → slice_get p.globals g ≡ Some d → IsOfSort (signature_of p) (process_count s) d.sort old
        → IsOfSort (signature_of p) (process_count s) d.sort (global_after s params t.updates pick (0 + g) old)
    global_stays g d old is was =
        let zero_add : 0 + g ≡ g = omega arith in
        let declared : declared_sort p.globals g ≡ Some d.sort = ap (option_map (λ x. x.sort)) is in
        subst (λ n. IsOfSort (signature_of p) (process_count s) d.sort (global_after s params t.updates pick n old)) (sym zero_add)
        (updated_of_sort params d.sort (update_of t.updates (Target.Global g)) (pick (Slot.Global g)) old params_within
        (value_counts (Target.Global g) d.sort params declared fires.one_each) was
        (λ v picked. pick_of_sort params (update_of t.updates (Target.Global g)) (declared_sort p.globals g) v d.sort (fires.picks (Slot.Global g) v picked) declared))

    cell_stays : (a i : ℕ) (d : Decl) (old : Val) → slice_get p.arrays a ≡ Some d → IsOfSort (signature_of p) (process_count s) d.sort old
        → IsOfSort (signature_of p) (process_count s) d.sort (cell_after s params (update_of t.updates (Target.Array a)) pick a i old)
    cell_stays a i d old is was = split (is_alive s i) refl
      where
        declared : declared_sort p.arrays a ≡ Some d.sort
        declared = ap (option_map (λ x. x.sort)) is

        split : (b : Bool) → is_alive s i ≡ b → IsOfSort (signature_of p) (process_count s) d.sort (if b then updated s (params ++ i ∷ []) (update_of t.updates (Target.Array a)) (pick (Slot.Cell a i)) old else old)
        split true alive =
            updated_of_sort (params ++ i ∷ []) d.sort (update_of t.updates (Target.Array a)) (pick (Slot.Cell a i)) old
            (All-push (λ j. j < process_count s) params i params_within (alive_within s i alive))
            (value_counts (Target.Array a) d.sort (params ++ i ∷ []) declared (length_push params i ∙ ap (λ n. n + 1) fires.one_each)) was
            (λ v picked. pick_of_sort (params ++ i ∷ []) (update_of t.updates (Target.Array a)) (declared_sort p.arrays a) v d.sort (fires.picks (Slot.Cell a i) v picked).1 declared)
        split false dead = was

    cells_stay : (a : ℕ) (d : Decl) (cells : List Val) → slice_get p.arrays a ≡ Some d → AreCells (signature_of p) (process_count s) d cells
        → AreCells (signature_of p) (process_count s) d (cells_after s params t.updates pick (0 + a) cells)
    cells_stay a d cells is were =
        let zero_add : 0 + a ≡ a = omega arith in
        let after_cells = map_from (cell_after s params (update_of t.updates (Target.Array a)) pick a) 0 cells in
        let stay : AreCells (signature_of p) (process_count s) d after_cells = record {
          one_each = length-map_from (cell_after s params (update_of t.updates (Target.Array a)) pick a) 0 cells ∙ were.one_each;
          fit = all_map_from (IsOfSort (signature_of p) (process_count s) d.sort) (cell_after s params (update_of t.updates (Target.Array a)) pick a) cells 0
              (λ i v below here. cell_stays a (0 + i) d v is here) were.fit;
        } in
        subst (λ n. AreCells (signature_of p) (process_count s) d (cells_after s params t.updates pick n cells)) (sym zero_add) stay

    pub fired_state : IsStateOf p (fired s params t.updates pick)
    fired_state = record {
      some_process = state.some_process;
      globals_fit = zip_map_from (λ d v. IsOfSort (signature_of p) (process_count s) d.sort v) (global_after s params t.updates pick) p.globals s.globals 0 global_stays state.globals_fit;
      arrays_fit = zip_map_from (AreCells (signature_of p) (process_count s)) (cells_after s params t.updates pick) p.arrays s.arrays 0 cells_stay state.arrays_fit;
    }

-- a crash changes no value and no count
killed_state : (p : Protocol) (s : Configuration) (i : ℕ) → IsStateOf p s → IsStateOf p (killed s i)
killed_state p s i state =
    let same : length s.living ≡ length (slice_set s.living i false) = sym (length-set s.living i false) in
    record {
      some_process = subst (λ n. 0 < n) same state.some_process;
      globals_fit = subst (λ n. AllZip (λ d v. IsOfSort (signature_of p) n d.sort v) p.globals s.globals) same state.globals_fit;
      arrays_fit = subst (λ n. AllZip (AreCells (signature_of p) n) p.arrays s.arrays) same state.arrays_fit;
    }

-- the transition of a number fits
transition_at : (p : Protocol) (number : ℕ) (t : Transition) → slice_get p.transitions number ≡ Some t → transition_fits (signature_of p) t ≡ true
transition_at p number t is =
    let within = slice_get_within p.transitions number t is in
    let same = get_or_from_slice_get p.transitions number t t is in
    subst (λ x. transition_fits (signature_of p) x ≡ true) same (p.transitions_fit number t within)

pub after_state : (p : Protocol) (s : Configuration) (event : Event) → IsStateOf p s → IsLegal p s event → IsStateOf p (after p s event)
after_state p s (Crash i) state legal = killed_state p s i state
after_state p s (Fire number params picks) state legal =
    subst (λ o. IsStateOf p (fired_by o s params picks)) (sym legal.is_there)
    (fired_state p s state legal.transition (transition_at p number legal.transition legal.is_there) params (picked picks) legal.fires)
