-- The picks that choices name, as a list that rises by slot.
use Rattle.std.proofs.Common.{◌≡◌, ◌⊎◌, ℕ, suc, zero, ◌+◌, ◌<◌, Bool, true, false, List, [], ◌∷◌, ◌++◌, length, Option, Some, None, refl, sym, ap, ◌∙◌, subst, arith, inl, inr}
use Rattle.std.specs.Prelude.{map, ◌&&◌, ◌||◌, ◌==◌, nat_lt, if◌then◌else◌, IsTrue, option_map, find}
use Rattle.std.specs.List.{flat_map, list_all, list_any, filter_map, cons_option, range_with_len}
use Rattle.std.proofs.lemmas.Slice.Zip.{AllZip-long}
use Rattle.cub_proto.specs.declared.literal.Sort.{Sort}
use Rattle.cub_proto.specs.declared.transition.Update.{Update}
use Rattle.cub_proto.specs.declared.state.Slot.{Slot}
use Rattle.cub_proto.specs.declared.state.Val.{Val}
use Rattle.cub_proto.specs.declared.event.Chosen.{Chosen}
use Rattle.cub_proto.specs.declared.protocol.Decl.{Decl}
use Rattle.cub_proto.specs.declared.protocol.Protocol.{Protocol}
use Rattle.cub_proto.specs.Configuration.{Configuration, process_count}
use Rattle.cub_proto.specs.Signature.{declared_sort}
use Rattle.cub_proto.specs.StateOf.{IsStateOf}
use Rattle.cub_proto.specs.Effect.{same_slot, picked}
use Rattle.cub_proto.specs.Legal.{MayPick, slot_before, picks_rise}
use Rattle.cub_proto.proofs.StateValues.{alive_within}
use Rattle.cub_cube.specs.Crashes.{IsCrashed}
use Rattle.cub_base.proofs.Bools.{and_both, is_less, same_refl}
use Rattle.cub_base.proofs.Members.{Has, has_left, has_right, has_map, map_has, has_flat_map, flat_map_has}
use Rattle.updates.specs.declared.choice.Choice.{Choice}
use Rattle.updates.proofs.Products.{range_has, has_below}
use Rattle.updates.proofs.StepLemmas.{member_all}
use Rattle.piece_laws.specs.Event.{pick_by, slots_of, picks_by}
use Rattle.piece_laws.proofs.PickSlots.{slot_itself, slot_is}

abbrev pub chosen_for : (Slot → Option Val) → Slot → Option Chosen
chosen_for f slot = option_map (λ v. record { slot = slot; val = v }) (f slot)

abbrev among_slots : List Slot → Slot → Bool
among_slots slots slot = list_any (λ o. same_slot o slot) slots

-- what the list has for a slot
picked_is : (f : Slot → Option Val) (slots : List Slot) (slot : Slot) → picked (filter_map (chosen_for f) slots) slot ≡ (if among_slots slots slot then f slot else None)
picked_is f [] slot = refl
picked_is f (o ∷ os) slot = by (f o) refl (same_slot o slot) refl (picked_is f os slot)
  where
    first : Slot → Option Chosen → List Chosen
    first o c = cons_option c (filter_map (chosen_for f) os)

    none_either : (b : Bool) (x : Option Val) → x ≡ None → (if b then x else None) ≡ None
    none_either true x e = e
    none_either false x e = refl

    by : (v : Option Val) → f o ≡ v → (b : Bool) → same_slot o slot ≡ b → picked (filter_map (chosen_for f) os) slot ≡ (if among_slots os slot then f slot else None)
        → picked (cons_option (option_map (λ w. let c : Chosen = record { slot = o; val = w } in c) (f o)) (filter_map (chosen_for f) os)) slot ≡ (if same_slot o slot || among_slots os slot then f slot else None)
    by None e true same rest =
        let here : f slot ≡ None = ap f (sym (slot_is o slot same)) ∙ e in
        ap (λ c. picked (cons_option (option_map (λ w. let c : Chosen = record { slot = o; val = w } in c) c) (filter_map (chosen_for f) os)) slot) e
        ∙ rest ∙ none_either (among_slots os slot) (f slot) here ∙ sym (ap (λ b. if b || among_slots os slot then f slot else None) same ∙ here)
    by None e false same rest =
        ap (λ c. picked (cons_option (option_map (λ w. let c : Chosen = record { slot = o; val = w } in c) c) (filter_map (chosen_for f) os)) slot) e
        ∙ rest ∙ sym (ap (λ b. if b || among_slots os slot then f slot else None) same)
    by (Some w) e true same rest =
        ap (λ c. picked (cons_option (option_map (λ w. let c : Chosen = record { slot = o; val = w } in c) c) (filter_map (chosen_for f) os)) slot) e
        ∙ ap (λ b. option_map (λ c. c.val) (if b then Some (let c : Chosen = record { slot = o; val = w } in c) else find (λ c. same_slot c.slot slot) (filter_map (chosen_for f) os))) same
        ∙ sym (ap (λ b. if b || among_slots os slot then f slot else None) same ∙ ap f (sym (slot_is o slot same)) ∙ e)
    by (Some w) e false same rest =
        ap (λ c. picked (cons_option (option_map (λ w. let c : Chosen = record { slot = o; val = w } in c) c) (filter_map (chosen_for f) os)) slot) e
        ∙ ap (λ b. option_map (λ c. c.val) (if b then Some (let c : Chosen = record { slot = o; val = w } in c) else find (λ c. same_slot c.slot slot) (filter_map (chosen_for f) os))) same
        ∙ rest ∙ sym (ap (λ b. if b || among_slots os slot then f slot else None) same)

has_among : (slots : List Slot) (slot : Slot) → Has slots slot → among_slots slots slot ≡ true
has_among [] slot none = absurd none
has_among (o ∷ os) slot (inl same) = ap (λ b. b || among_slots os slot) (ap (λ x. same_slot x slot) same ∙ slot_itself slot)
has_among (o ∷ os) slot (inr later) = ap (λ b. same_slot o slot || b) (has_among os slot later) ∙ by (same_slot o slot)
  where
    by : (b : Bool) → (b || true) ≡ true
    by true = refl
    by false = refl

pub picked_pointwise : (f : Slot → Option Val) (slots : List Slot) → ((slot : Slot) (v : Val) → f slot ≡ Some v → Has slots slot) → (slot : Slot) → picked (filter_map (chosen_for f) slots) slot ≡ f slot
picked_pointwise f slots there slot = picked_is f slots slot ∙ by (f slot) refl
  where
    either : (b : Bool) (n : Option Val) → (if b then n else n) ≡ n
    either true n = refl
    either false n = refl

    by : (o : Option Val) → f slot ≡ o → (if among_slots slots slot then f slot else None) ≡ f slot
    by None e = ap (λ x. if among_slots slots slot then x else None) e ∙ either (among_slots slots slot) None ∙ sym e
    by (Some v) e = ap (λ b. if b then f slot else None) (has_among slots slot (there slot v e))

-- ---- rising
Rises : List Slot → Type 0
Rises [] = Unit {0}
Rises (o ∷ os) = ((x : Slot) → Has os x → IsTrue (slot_before o x)) × Rises os

filter_has_from : (f : Slot → Option Val) (slots : List Slot) (c : Chosen) → Has (filter_map (chosen_for f) slots) c → Has slots c.slot
filter_has_from f [] c none = absurd none
filter_has_from f (o ∷ os) c h = by (f o) h (filter_has_from f os c)
  where
    by : (v : Option Val) → Has (cons_option (option_map (λ w. let d : Chosen = record { slot = o; val = w } in d) v) (filter_map (chosen_for f) os)) c → (Has (filter_map (chosen_for f) os) c → Has os c.slot) → Has (o ∷ os) c.slot
    by None at rest = inr (rest at)
    by (Some w) (inl same) rest = inl (ap (λ d. d.slot) same)
    by (Some w) (inr later) rest = inr (rest later)

picks_rising : (f : Slot → Option Val) (slots : List Slot) → Rises slots → IsTrue (picks_rise (filter_map (chosen_for f) slots))
unfolding Rises
picks_rising f [] rises = refl
picks_rising f (o ∷ os) rises = by (f o) (picks_rising f os rises.1)
  where
    by : (v : Option Val) → IsTrue (picks_rise (filter_map (chosen_for f) os)) → IsTrue (picks_rise (cons_option (option_map (λ w. let d : Chosen = record { slot = o; val = w } in d) v) (filter_map (chosen_for f) os)))
    by None rest = rest
    by (Some w) rest =
        and_both (list_all (λ d. slot_before o d.slot) (filter_map (chosen_for f) os)) (picks_rise (filter_map (chosen_for f) os))
        (member_all (λ d. slot_before o d.slot) (filter_map (chosen_for f) os) (λ d h. rises.0 d.slot (filter_has_from f os d h))) rest

rises_append : (xs ys : List Slot) → Rises xs → Rises ys → ((x y : Slot) → Has xs x → Has ys y → IsTrue (slot_before x y)) → Rises (xs ++ ys)
unfolding Rises
rises_append [] ys h k before = k
rises_append (x ∷ xs) ys h k before = (
  λ z at. by z (cases z at),
  rises_append xs ys h.1 k (λ u v a b. before u v (inr a) b),
)
  where
    cases : (z : Slot) → Has (xs ++ ys) z → Has xs z ⊎ Has ys z
    cases z at = split xs at
      where
        split : (us : List Slot) → Has (us ++ ys) z → Has us z ⊎ Has ys z
        split [] at = inr at
        split (u ∷ us) (inl same) = inl (inl same)
        split (u ∷ us) (inr later) = lift (split us later)
          where
            lift : Has us z ⊎ Has ys z → Has (u ∷ us) z ⊎ Has ys z
            lift (inl a) = inl (inr a)
            lift (inr b) = inr b

    by : (z : Slot) → Has xs z ⊎ Has ys z → IsTrue (slot_before x z)
    by z (inl early) = h.0 z early
    by z (inr late) = before x z (inl refl) late

rises_range : (f : ℕ → Slot) → ((i j : ℕ) → i < j → IsTrue (slot_before (f i) (f j))) → (from n : ℕ) → Rises (map f (range_with_len from n))
unfolding Rises
rises_range f mono from zero = tt
rises_range f mono from (suc n) = (
  λ x at.
      let found = map_has f (range_with_len (from + 1) n) x at in
      let range = range_has (from + 1) n found.0 found.1 in
      subst (λ y. IsTrue (slot_before (f from) y)) found.2 (mono from found.0 (omega (arith, range.0))),
  rises_range f mono (from + 1) n,
)

cells_before : (a b i j : ℕ) → a < b → IsTrue (slot_before (Slot.Cell a i) (Slot.Cell b j))
cells_before a b i j h = ap (λ t. t || ((a == b) && nat_lt i j)) (is_less a b h)

cells_in_order : (a i j : ℕ) → i < j → IsTrue (slot_before (Slot.Cell a i) (Slot.Cell a j))
cells_in_order a i j h = ap (λ t. nat_lt a a || (t && nat_lt i j)) (same_refl a) ∙ ap (λ t. nat_lt a a || t) (is_less i j h) ∙ by (nat_lt a a)
  where
    by : (b : Bool) → (b || true) ≡ true
    by true = refl
    by false = refl

rises_cells : (n from count : ℕ) → Rises (flat_map (λ a. map (λ i. Slot.Cell a i) (range_with_len 0 n)) (range_with_len from count))
unfolding Rises
rises_cells n from zero = tt
rises_cells n from (suc count) =
    rises_append (map (λ i. Slot.Cell from i) (range_with_len 0 n)) (flat_map (λ a. map (λ i. Slot.Cell a i) (range_with_len 0 n)) (range_with_len (from + 1) count))
    (rises_range (λ i. Slot.Cell from i) (cells_in_order from) 0 n) (rises_cells n (from + 1) count)
    (λ x y at behind.
    let first = map_has (λ i. Slot.Cell from i) (range_with_len 0 n) x at in
    let later = flat_map_has (λ a. map (λ i. Slot.Cell a i) (range_with_len 0 n)) (range_with_len (from + 1) count) y behind in
    let cell = map_has (λ i. Slot.Cell later.0 i) (range_with_len 0 n) y later.2 in
    let range = range_has (from + 1) count later.0 later.1 in
    subst (λ z. IsTrue (slot_before z y)) first.2 (subst (λ z. IsTrue (slot_before (Slot.Cell from first.0) z)) cell.2 (cells_before from later.0 first.0 cell.0 (omega (arith, range.0)))))

slots_rise : (s : Configuration) → Rises (slots_of s)
unfolding Rises
slots_rise s =
    rises_append (map (λ g. Slot.Global g) (range_with_len 0 (length s.globals))) (flat_map (λ a. map (λ i. Slot.Cell a i) (range_with_len 0 (process_count s))) (range_with_len 0 (length s.arrays)))
    (rises_range (λ g. Slot.Global g) (λ i j h. is_less i j h) 0 (length s.globals)) (rises_cells (process_count s) 0 (length s.arrays))
    (λ x y at behind.
    let first = map_has (λ g. Slot.Global g) (range_with_len 0 (length s.globals)) x at in
    let later = flat_map_has (λ a. map (λ i. Slot.Cell a i) (range_with_len 0 (process_count s))) (range_with_len 0 (length s.arrays)) y behind in
    let cell = map_has (λ i. Slot.Cell later.0 i) (range_with_len 0 (process_count s)) y later.2 in
    subst (λ z. IsTrue (slot_before z y)) first.2 (subst (λ z. IsTrue (slot_before (Slot.Global first.0) z)) cell.2 refl))

pub picks_by_rise : (s : Configuration) (choices : List Choice) (places : List ℕ) → IsTrue (picks_rise (picks_by s choices places))
picks_by_rise s choices places = picks_rising (pick_by choices places) (slots_of s) (slots_rise s)

-- ---- slots that take a pick are there
declared_below : (decls : List Decl) (n : ℕ) (sort : Sort) → declared_sort decls n ≡ Some sort → n < length decls
declared_below [] n sort h = cc
declared_below (d ∷ ds) zero sort h = omega arith
declared_below (d ∷ ds) (suc n) sort h = omega (arith, declared_below ds n sort h)

pub slot_there : (p : Protocol) (s : Configuration) (updates : List Update) (params : List ℕ) → IsStateOf p s → (slot : Slot) (v : Val) → MayPick p s updates params slot v → Has (slots_of s) slot
slot_there p s updates params state (Slot.Global g) v may =
    let below = declared_below p.globals g may.its_sort may.is_sort in
    has_left (map (λ i. Slot.Global i) (range_with_len 0 (length s.globals))) (flat_map (λ a. map (λ i. Slot.Cell a i) (range_with_len 0 (process_count s))) (range_with_len 0 (length s.arrays))) (Slot.Global g)
    (has_map (λ i. Slot.Global i) (range_with_len 0 (length s.globals)) g (has_below (length s.globals) g (omega (arith, below, AllZip-long _ p.globals s.globals state.globals_fit))))
slot_there p s updates params state (Slot.Cell a i) v may =
    let takes = may.1 in
    let below = declared_below p.arrays a takes.its_sort takes.is_sort in
    has_right (map (λ k. Slot.Global k) (range_with_len 0 (length s.globals))) (flat_map (λ b. map (λ k. Slot.Cell b k) (range_with_len 0 (process_count s))) (range_with_len 0 (length s.arrays))) (Slot.Cell a i)
    (has_flat_map (λ b. map (λ k. Slot.Cell b k) (range_with_len 0 (process_count s))) (range_with_len 0 (length s.arrays)) a (Slot.Cell a i)
    (has_below (length s.arrays) a (omega (arith, below, AllZip-long _ p.arrays s.arrays state.arrays_fit)))
    (has_map (λ k. Slot.Cell a k) (range_with_len 0 (process_count s)) i (has_below (process_count s) i (alive_within s i may.0))))

-- crashes change no slots
pub picks_by_crashed : (s after : Configuration) (choices : List Choice) (places : List ℕ) → IsCrashed s after → picks_by after choices places ≡ picks_by s choices places
picks_by_crashed s after choices places crashed = ap (filter_map (chosen_for (pick_by choices places))) same
  where
    slots_by : ℕ → ℕ → ℕ → List Slot
    slots_by g a n = map (λ i. Slot.Global i) (range_with_len 0 g) ++ flat_map (λ b. map (λ i. Slot.Cell b i) (range_with_len 0 n)) (range_with_len 0 a)

    same : slots_of after ≡ slots_of s
    same =
        ap (λ gs. slots_by (length gs) (length after.arrays) (length after.living)) crashed.globals
        ∙ ap (λ xs. slots_by (length s.globals) (length xs) (length after.living)) crashed.arrays ∙ ap (λ n. slots_by (length s.globals) (length s.arrays) n) crashed.count
