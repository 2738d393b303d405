-- Slots told apart, and what is picked for them.
use Rattle.std.proofs.Common.{◌≡◌, ℕ, Bool, true, false, cond, ◌&&◌, ◌==◌, nat_lt, List, [], ◌∷◌, ◌++◌, Some, None, find, refl, sym, ap, ◌∙◌, arith}
use Rattle.std.specs.Option.{option_or, option_map}
use Rattle.std.specs.List.{list_all}
use Rattle.std.proofs.Common.{inl, inr}
use Rattle.std.proofs.lemmas.Bool.{and_parts, eqb-true, eq-eqb, ltb-true, ne_eqb, or_cases, cond-true, cond-false}
use Rattle.std.proofs.lemmas.List.Folds.{find-append}
use Rattle.cub_proto.specs.declared.state.Slot.{Slot}
use Rattle.cub_proto.specs.declared.event.Chosen.{Chosen}
use Rattle.cub_proto.specs.Effect.{same_slot, picked}
use Rattle.cub_proto.specs.Legal.{slot_before, picks_rise}
use Rattle.cub_base.proofs.Searches.{or_none}

cells_differ : (a b i j : ℕ) → slot_before (Slot.Cell a i) (Slot.Cell b j) ≡ true → same_slot (Slot.Cell a i) (Slot.Cell b j) ≡ false
cells_differ a b i j x =
    elim (or_cases (nat_lt a b) (a == b && nat_lt i j) x) as (λ _. same_slot (Slot.Cell a i) (Slot.Cell b j) ≡ false) [
      | inl less ↦ (let l = ltb-true a b less in cond-false (a == b) (i == j) false (ne_eqb a b (λ e. omega arith)))
      | inr both ↦
          (let parts = and_parts (a == b) (nat_lt i j) both in
          let l = ltb-true i j parts.1 in
          cond-true (a == b) (i == j) false parts.0 ∙ ne_eqb i j (λ e. omega arith))
    ]

pub slot_before_differs : (a b : Slot) → slot_before a b ≡ true → same_slot a b ≡ false
slot_before_differs (Slot.Global g) (Slot.Global h) x = ne_eqb g h (let l = ltb-true g h x in λ e. omega arith)
slot_before_differs (Slot.Global g) (Slot.Cell b j) x = refl
slot_before_differs (Slot.Cell a i) (Slot.Global h) x = refl
slot_before_differs (Slot.Cell a i) (Slot.Cell b j) x = cells_differ a b i j x

pub slot_same : (a : Slot) → same_slot a a ≡ true
slot_same (Slot.Global g) = eq-eqb g g refl
slot_same (Slot.Cell a i) = cond-true (a == a) (i == i) false (eq-eqb a a refl) ∙ eq-eqb i i refl

-- cells of different arrays, or of different processes
pub arrays_differ : (a b i j : ℕ) → (b ≡ a → ⊥) → same_slot (Slot.Cell a i) (Slot.Cell b j) ≡ false
arrays_differ a b i j differ = cond-false (a == b) (i == j) false (ne_eqb a b (λ e. differ (sym e)))

pub processes_differ : (a i j : ℕ) → (j ≡ i → ⊥) → same_slot (Slot.Cell a i) (Slot.Cell a j) ≡ false
processes_differ a i j differ =
    cond-true (a == a) (i == j) false (eq-eqb a a refl) ∙ ne_eqb i j (λ e. differ (sym e))

all_before : (test : Chosen → Bool) (done cs : List Chosen) (c : Chosen) → list_all test (done ++ c ∷ cs) ≡ true → test c ≡ true
all_before test [] cs c h = (and_parts (test c) (list_all test cs) h).0
all_before test (d ∷ ds) cs c h =
    all_before test ds cs c (and_parts (test d) (list_all test (ds ++ c ∷ cs)) h).1

-- where picks rise, no earlier one has the slot
pub fresh_slot : (done cs : List Chosen) (c : Chosen) → picks_rise (done ++ c ∷ cs) ≡ true → find (λ d. same_slot d.slot c.slot) done ≡ None
fresh_slot [] cs c h = refl
fresh_slot (d ∷ ds) cs c h =
    let parts = and_parts (list_all (λ e. slot_before d.slot e.slot) (ds ++ c ∷ cs)) (picks_rise (ds ++ c ∷ cs)) h in
    let differs = slot_before_differs d.slot c.slot (all_before (λ e. slot_before d.slot e.slot) ds cs c parts.0) in
    ap (λ t. cond t (Some d) (find (λ e. same_slot e.slot c.slot) ds)) differs ∙ fresh_slot ds cs c parts.1

pub picked_elsewhere : (done : List Chosen) (c : Chosen) (slot : Slot) → same_slot c.slot slot ≡ false → picked (done ++ c ∷ []) slot ≡ picked done slot
picked_elsewhere done c slot differs =
    ap (option_map (λ d. d.val)) (find-append (λ d. same_slot d.slot slot) done (c ∷ [])
    ∙ ap (λ t. option_or (find (λ d. same_slot d.slot slot) done) (cond t (Some c) None)) differs ∙ or_none (find (λ d. same_slot d.slot slot) done))

pub picked_here : (done : List Chosen) (c : Chosen) → find (λ d. same_slot d.slot c.slot) done ≡ None → picked (done ++ c ∷ []) c.slot ≡ Some c.val
picked_here done c fresh =
    ap (option_map (λ d. d.val)) (find-append (λ d. same_slot d.slot c.slot) done (c ∷ [])
    ∙ ap (λ o. option_or o (cond (same_slot c.slot c.slot) (Some c) None)) fresh
    ∙ ap (λ t. cond t (Some c) None) (slot_same c.slot))

cell_is : (a i b j : ℕ) → same_slot (Slot.Cell a i) (Slot.Cell b j) ≡ true → Slot.Cell a i ≡ Slot.Cell b j
cell_is a i b j h =
    (elim (a == b) as (λ t. (a == b) ≡ t → cond t (i == j) false ≡ true → Slot.Cell a i ≡ Slot.Cell b j) [
      | true ↦ λ e f. (let x = eqb-true a b e in let y = eqb-true i j f in ap (λ n. Slot.Cell n i) x ∙ ap (Slot.Cell b) y)
      | false ↦ λ e f. absurd (let g : false ≡ true = f in cc)
    ]) refl h

-- the test of slots is equality
pub slot_is : (a b : Slot) → same_slot a b ≡ true → a ≡ b
slot_is (Slot.Global g) (Slot.Global h) e = ap (λ n. Slot.Global n) (eqb-true g h e)
slot_is (Slot.Global g) (Slot.Cell b j) e = absurd (let f : false ≡ true = e in cc)
slot_is (Slot.Cell a i) (Slot.Global h) e = absurd (let f : false ≡ true = e in cc)
slot_is (Slot.Cell a i) (Slot.Cell b j) e = cell_is a i b j e
