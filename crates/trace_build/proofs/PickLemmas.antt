-- Picks for lists of slots, and that nothing is picked where no choice has a pick.
use Rattle.std.proofs.Common.{◌≡◌, ℕ, suc, zero, ◌+◌, Bool, true, false, cond, List, [], ◌∷◌, ◌++◌, map, filter, length, Option, Some, None, refl, sym, ap, ◌∙◌, arith, append_assoc}
use Rattle.std.specs.Prelude.{if◌then◌else◌, option_map}
use Rattle.std.specs.List.{range_with_len, flat_map}
use Rattle.std.proofs.lemmas.List.{append-nil}
use Rattle.std.proofs.lemmas.List.Elements.{filter_map-append}
use Rattle.cub_base.proofs.Bools.{and_left, and_right}
use Rattle.cub_proto.specs.declared.literal.Value.{Value}
use Rattle.cub_proto.specs.declared.state.Slot.{Slot}
use Rattle.cub_proto.specs.declared.state.Val.{Val}
use Rattle.cub_proto.specs.declared.event.Chosen.{Chosen}
use Rattle.cub_proto.specs.Effect.{same_slot}
use Rattle.cub_proto.specs.Truth.{slot_of}
use Rattle.updates.specs.declared.choice.Choice.{Choice}
use Rattle.cub_proto.specs.declared.protocol.Decl.{Decl}
use Rattle.cub_proto.specs.declared.protocol.Protocol.{Protocol}
use Rattle.cub_proto.specs.Configuration.{Configuration, process_count}
use Rattle.cub_proto.specs.StateOf.{IsStateOf, IsOfSort, AreCells, signature_of}
use Rattle.piece_choices.proofs.ListLemmas.{zip_length}
use Rattle.piece_laws.specs.Event.{picked_value, pick_by, picks_by}
use Rattle.trace_build.specs.Picks.{picks_at, is_none, has_no_pick}

-- one number more from the end
pub range_more : (a n : ℕ) → range_with_len a (suc n) ≡ range_with_len a n ++ (a + n) ∷ []
range_more a zero = let same : a ≡ a + zero = omega arith in ap (λ m. m ∷ []) same
range_more a (suc n) =
    let same : a + 1 + n ≡ a + suc n = omega arith in
    ap (λ xs. a ∷ xs) (range_more (a + 1) n ∙ ap (λ m. range_with_len (a + 1) n ++ m ∷ []) same)

pub range_next : (n : ℕ) → range_with_len 0 (n + 1) ≡ range_with_len 0 n ++ n ∷ []
range_next n =
    let next : n + 1 ≡ suc n = omega arith in
    let same : 0 + n ≡ n = omega arith in
    ap (range_with_len 0) next ∙ range_more 0 n ∙ ap (λ m. range_with_len 0 n ++ m ∷ []) same

pub map_append : {A B : Type 0} (f : A → B) (xs ys : List A) → map f (xs ++ ys) ≡ map f xs ++ map f ys
map_append f [] ys = refl
map_append f (x ∷ xs) ys = ap (λ zs. f x ∷ zs) (map_append f xs ys)

pub flat_map_append : {A B : Type 0} (f : A → List B) (xs ys : List A) → flat_map f (xs ++ ys) ≡ flat_map f xs ++ flat_map f ys
flat_map_append f [] ys = refl
flat_map_append f (x ∷ xs) ys = ap (λ zs. f x ++ zs) (flat_map_append f xs ys) ∙ sym (append_assoc (f x) (flat_map f xs) (flat_map f ys))

module _ (choices : List Choice) (processes : List ℕ) where
  pub picks_append : (xs ys : List Slot) → picks_at choices processes (xs ++ ys) ≡ picks_at choices processes xs ++ picks_at choices processes ys
  picks_append xs ys = filter_map-append (λ (slot : Slot). option_map (λ v. let c : Chosen = record { slot = slot; val = v } in c) (pick_by choices processes slot)) xs ys

  -- the slots of numbers, one number more
  pub picks_next : (slot : ℕ → Slot) (n : ℕ) → picks_at choices processes (map slot (range_with_len 0 (n + 1))) ≡ picks_at choices processes (map slot (range_with_len 0 n)) ++ picks_at choices processes (slot n ∷ [])
  picks_next slot n =
      ap (λ xs. picks_at choices processes (map slot xs)) (range_next n) ∙ ap (picks_at choices processes) (map_append slot (range_with_len 0 n) (n ∷ []))
      ∙ picks_append (map slot (range_with_len 0 n)) (slot n ∷ [])

  pub picks_rows : (row : ℕ → List Slot) (n : ℕ) → picks_at choices processes (flat_map row (range_with_len 0 (n + 1))) ≡ picks_at choices processes (flat_map row (range_with_len 0 n)) ++ picks_at choices processes (row n)
  picks_rows row n =
      ap (λ xs. picks_at choices processes (flat_map row xs)) (range_next n) ∙ ap (picks_at choices processes) (flat_map_append row (range_with_len 0 n) (n ∷ []) ∙ ap (λ xs. flat_map row (range_with_len 0 n) ++ xs) (append-nil (row n)))
      ∙ picks_append (flat_map row (range_with_len 0 n)) (row n)

nothing : (processes : List ℕ) (pick : Option Value) → is_none pick ≡ true → picked_value processes pick ≡ None
nothing processes None h = refl
nothing processes (Some v) h = cc

no_pick : (choices : List Choice) (processes : List ℕ) (slot : Slot) → has_no_pick choices ≡ true → pick_by choices processes slot ≡ None
no_pick [] processes slot h = refl
no_pick (c ∷ cs) processes slot h =
    by (same_slot (slot_of processes c.term) slot) (nothing processes c.pick (and_left (is_none c.pick) (has_no_pick cs) h)) (no_pick cs processes slot (and_right (is_none c.pick) (has_no_pick cs) h))
  where
    by : (b : Bool) → picked_value processes c.pick ≡ None → pick_by cs processes slot ≡ None → (if b then picked_value processes c.pick else pick_by cs processes slot) ≡ None
    by true here rest = here
    by false here rest = rest

pub no_picks : (choices : List Choice) (processes : List ℕ) (slots : List Slot) → has_no_pick choices ≡ true → picks_at choices processes slots ≡ []
no_picks choices processes [] h = refl
no_picks choices processes (slot ∷ slots) h =
    ap (λ (o : Option Val). filter_onto (option_map (λ v. let c : Chosen = record { slot = slot; val = v } in c) o) (picks_at choices processes slots)) (no_pick choices processes slot h) ∙ no_picks choices processes slots h
  where
    filter_onto : Option Chosen → List Chosen → List Chosen
    filter_onto None xs = xs
    filter_onto (Some c) xs = c ∷ xs

-- ---- lists that grow
pub grown : {A : Type 0} (old mid new more all part : List A) → new ≡ mid ++ part → mid ≡ old ++ more → all ≡ more ++ part → new ≡ old ++ all
grown old mid new more all part is was joined = is ∙ ap (λ xs. xs ++ part) was ∙ append_assoc old more part ∙ ap (λ xs. old ++ xs) (sym joined)

pub filter_append : {A : Type 0} (test : A → Bool) (xs ys : List A) → filter test (xs ++ ys) ≡ filter test xs ++ filter test ys
filter_append test [] ys = refl
filter_append {A} test (x ∷ xs) ys = by (test x) (filter_append test xs ys)
  where
    by : (b : Bool) → filter test (xs ++ ys) ≡ filter test xs ++ filter test ys → cond b (x ∷ filter test (xs ++ ys)) (filter test (xs ++ ys)) ≡ cond b (x ∷ filter test xs) (filter test xs) ++ filter test ys
    by true rest = ap (λ zs. x ∷ zs) rest
    by false rest = rest

pub filter_yes : (test : ℕ → Bool) (n : ℕ) → test n ≡ true → filter test (range_with_len 0 (n + 1)) ≡ filter test (range_with_len 0 n) ++ n ∷ []
filter_yes test n h =
    ap (filter test) (range_next n) ∙ filter_append test (range_with_len 0 n) (n ∷ []) ∙ ap (λ b. filter test (range_with_len 0 n) ++ cond b (n ∷ []) []) h

pub filter_no : (test : ℕ → Bool) (n : ℕ) → test n ≡ false → filter test (range_with_len 0 (n + 1)) ≡ filter test (range_with_len 0 n)
filter_no test n h =
    ap (filter test) (range_next n) ∙ filter_append test (range_with_len 0 n) (n ∷ []) ∙ ap (λ b. filter test (range_with_len 0 n) ++ cond b (n ∷ []) []) h ∙ append-nil (filter test (range_with_len 0 n))

-- the picks for the globals and for the cells are those for all slots
pub all_picks : (p : Protocol) (s : Configuration) → IsStateOf p s → (choices : List Choice) (processes : List ℕ) (globals arrays : ℕ) → globals ≡ length p.globals → arrays ≡ length p.arrays
    → picks_at choices processes (map (λ g. Slot.Global g) (range_with_len 0 globals)) ++ picks_at choices processes (flat_map (λ a. map (λ i. Slot.Cell a i) (range_with_len 0 (process_count s))) (range_with_len 0 arrays))
    ≡ picks_by s choices processes
all_picks p s state choices processes globals arrays is_globals is_arrays =
    sym (picks_append choices processes (map (λ g. Slot.Global g) (range_with_len 0 globals)) (flat_map (λ a. map (λ i. Slot.Cell a i) (range_with_len 0 (process_count s))) (range_with_len 0 arrays)))
    ∙ ap (λ g. picks_at choices processes (map (λ i. Slot.Global i) (range_with_len 0 g) ++ flat_map (λ a. map (λ i. Slot.Cell a i) (range_with_len 0 (process_count s))) (range_with_len 0 arrays)))
    (is_globals ∙ zip_length (λ (d : Decl) v. IsOfSort (signature_of p) (process_count s) d.sort v) p.globals s.globals state.globals_fit)
    ∙ ap (λ n. picks_at choices processes (map (λ i. Slot.Global i) (range_with_len 0 (length s.globals)) ++ flat_map (λ a. map (λ i. Slot.Cell a i) (range_with_len 0 (process_count s))) (range_with_len 0 n)))
    (is_arrays ∙ zip_length (AreCells (signature_of p) (process_count s)) p.arrays s.arrays state.arrays_fit)
