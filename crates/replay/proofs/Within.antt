-- How far an event moves the integers of a state.
use Rattle.std.proofs.Common.{◌≡◌, ℕ, ◌+◌, ◌≤◌, ℤ, ◌+ℤ◌, Bool, true, false, cond, nat_le, nat_lt, List, [], ◌∷◌, ◌++◌, Option, Some, None, unsigned_abs, refl, subst, arith, All}
use Rattle.std.proofs.lemmas.Bool.{and_parts, leb-true}
use Rattle.std.proofs.lemmas.Int.{ints}
use Rattle.std.proofs.lemmas.List.Elements.{All-weaker, All-cons, All-nil, All-head, All-tail}
use Rattle.cub_proto.specs.declared.literal.Sort.{Sort}
use Rattle.cub_proto.specs.declared.literal.Value.{Value}
use Rattle.cub_proto.specs.declared.transition.Target.{Target}
use Rattle.cub_proto.specs.declared.transition.Update.{Update}
use Rattle.cub_proto.specs.declared.state.Slot.{Slot}
use Rattle.cub_proto.specs.declared.state.Val.{Val}
use Rattle.cub_proto.specs.declared.state.Val.TheVariants.{Con, Proc, Int}
use Rattle.cub_proto.specs.declared.protocol.Protocol.{Protocol}
use Rattle.cub_proto.specs.Configuration.{Configuration, process_count, is_alive}
use Rattle.cub_proto.specs.Signature.{Signature, sort_of, declared_sort, target_sort, is_sort}
use Rattle.cub_proto.specs.Fits.{is_any, place_fits, integer_side_fits, conjunction_fits, value_fits, branch_fits, update_width, update_fits_sort, update_fits, greatest_constant}
use Rattle.cub_proto.specs.StateOf.{IsStateOf, signature_of}
use Rattle.cub_proto.specs.Truth.{integer_at}
use Rattle.cub_base.specs.Numbered.{map_from}
use Rattle.cub_proto.specs.Effect.{counting, settled, updated, update_of, global_after, cell_after, cells_after, fired}
use Rattle.replay.specs.FitsEvent.{is_of_sort, is_declared, slot_takes}
use Rattle.replay.specs.Fault.{is_free, is_free_slot}
use Rattle.replay.specs.Bound.{size_of, AreWithin, IsWithin}
use Rattle.cub_proto.proofs.Targets.{update_found}
use Rattle.replay.proofs.Counting.{of_chosen}
use Rattle.replay.proofs.Parts.{UpdateParts, update_parts}
use Rattle.cub_proto.proofs.Readable.{Fills, has_term, has_integer_side}
use Rattle.cub_proto.proofs.Readable.{fills_more, sort_is_some}
use Rattle.replay.proofs.Reading.{term_within, side_within}
use Rattle.cub_proto.proofs.StateValues.{alive_within}

-- what holds of each element's image holds of the list of images
all_map_from : {A B : Type 0} (P : A → Type 0) (Q : B → Type 0) (f : ℕ → A → B) (n : ℕ) (xs : List A) → ((k : ℕ) (x : A) → P x → Q (f k x)) → All P xs → All Q (map_from f n xs)
all_map_from P Q f n [] keeps each = All-nil Q
all_map_from P Q f n (x ∷ xs) keeps each =
    All-cons Q (f n x) (map_from f (n + 1) xs) (keeps n x (All-head P x xs each)) (all_map_from P Q f (n + 1) xs keeps (All-tail P x xs each))

sum_within : (a b : ℤ) (bound : ℕ) → unsigned_abs a ≤ bound → unsigned_abs b ≤ greatest_constant → unsigned_abs (a +ℤ b) ≤ bound + greatest_constant
sum_within a b bound h k = omega (arith, ints)

-- where the counting value is `?`, a pick of the slot's sort is no integer
any_is_small : (sig : Signature) (width n : ℕ) (sort : Sort) (w : Value) (v : Val) → value_fits sig width sort w ≡ true → is_any w ≡ true → is_of_sort sig n sort v ≡ true → size_of v ≡ 0
any_is_small sig width n sort (Value.Con c) v fits any of_sort = absurd (let e : false ≡ true = any in cc)
any_is_small sig width n sort (Value.Read t) v fits any of_sort = absurd (let e : false ≡ true = any in cc)
any_is_small sig width n sort (Value.Proc side) v fits any of_sort = absurd (let e : false ≡ true = any in cc)
any_is_small sig width n sort (Value.Sum base add) v fits any of_sort = absurd (let e : false ≡ true = any in cc)
any_is_small sig width n (Sort.Fin k) Value.Any (Con c) fits any of_sort = refl
any_is_small sig width n (Sort.Fin k) Value.Any (Proc i) fits any of_sort = refl
any_is_small sig width n (Sort.Fin k) Value.Any (Int m) fits any of_sort = absurd (let e : false ≡ true = of_sort in cc)
any_is_small sig width n Sort.Proc Value.Any (Con c) fits any of_sort = refl
any_is_small sig width n Sort.Proc Value.Any (Proc i) fits any of_sort = refl
any_is_small sig width n Sort.Proc Value.Any (Int m) fits any of_sort = absurd (let e : false ≡ true = of_sort in cc)
any_is_small sig width n Sort.Int Value.Any v fits any of_sort = absurd (let e : false ≡ true = fits in cc)

-- the value that counts fits
pub counting_fits : (sig : Signature) (width : ℕ) (o : Option Sort) (s : Configuration) (places : List ℕ) (u : Update) (parts : UpdateParts sig width o u) → value_fits sig width parts.sort (counting s places u) ≡ true
counting_fits sig width o s places u parts =
    of_chosen (λ w. value_fits sig width parts.sort w ≡ true) s places u.branches u.last
    (All-weaker (λ b. branch_fits sig width parts.sort b ≡ true) (λ b. value_fits sig width parts.sort b.value ≡ true)
    (λ b h. (and_parts (conjunction_fits sig width b.cond) (value_fits sig width parts.sort b.value) h).1) u.branches parts.branches)
    parts.last

pick_small : (sig : Signature) (n width : ℕ) (s : Configuration) (places : List ℕ) (o : Option Update) (sort : Option Sort) (v : Val)
    → ((u : Update) → o ≡ Some u → update_fits_sort sig width sort u ≡ true) → is_free s places o ≡ true → is_declared sig n sort v ≡ true → size_of v ≡ 0
pick_small sig n width s places None sort v fits free declared = absurd (let e : false ≡ true = free in cc)
pick_small sig n width s places (Some u) None v fits free declared = absurd (let e : false ≡ true = declared in cc)
pick_small sig n width s places (Some u) (Some sort) v fits free declared =
    let parts = update_parts sig width (Some sort) u (fits u refl) in
    let same : sort ≡ parts.sort = (let e : Some sort ≡ Some parts.sort = parts.is_sort in cc) in
    any_is_small sig width n parts.sort (counting s places u) v (counting_fits sig width (Some sort) s places u parts) free
    (subst (λ k. is_of_sort sig n k v ≡ true) same declared)

-- the update of a target fits the target's sort
target_fits : (sig : Signature) (params : ℕ) (us : List Update) (target : Target) → All (λ u. update_fits sig params u ≡ true) us → (u : Update) → update_of us target ≡ Some u → update_fits_sort sig (update_width params target) (target_sort sig target) u ≡ true
target_fits sig params us target fit u is =
    let found = update_found (λ v. update_fits sig params v ≡ true) us target u fit is in
    subst (λ w. update_fits_sort sig (update_width params w) (target_sort sig w) u ≡ true) found.1 found.0

-- a pick that fits, for a slot that takes it, is no integer
pub allowed_small : (p : Protocol) (s : Configuration) (us : List Update) (params : List ℕ) (count : ℕ) (slot : Slot) (v : Val) → All (λ u. update_fits (signature_of p) count u ≡ true) us → slot_takes p (process_count s) slot v ≡ true → is_free_slot s us params slot ≡ true → size_of v ≡ 0
allowed_small p s us params count (Slot.Global g) v fit takes free =
    pick_small (signature_of p) (process_count s) count s params (update_of us (Target.Global g)) (declared_sort p.globals g) v
    (target_fits (signature_of p) count us (Target.Global g) fit) free takes
allowed_small p s us params count (Slot.Cell a i) v fit takes free =
    pick_small (signature_of p) (process_count s) (count + 1) s (params ++ i ∷ []) (update_of us (Target.Array a)) (declared_sort p.arrays a) v
    (target_fits (signature_of p) count us (Target.Array a) fit)
    (and_parts (is_alive s i) (is_free s (params ++ i ∷ []) (update_of us (Target.Array a))) free).1
    (and_parts (nat_lt i (process_count s)) (is_declared (signature_of p) (process_count s) (declared_sort p.arrays a) v) takes).1

module _ (p : Protocol) (s : Configuration) (state : IsStateOf p s) (bound : ℕ) (within : IsWithin bound s) where
  more : ℕ
  more = bound + greatest_constant

  module _ (width : ℕ) (places : List ℕ) (fills : Fills s places width) where
    settled_within : (sort : Sort) (w : Value) (pick : Option Val) (old : Val) → value_fits (signature_of p) width sort w ≡ true → ((v : Val) → pick ≡ Some v → size_of v ≡ 0) → size_of old ≤ bound → size_of (settled s places w pick old) ≤ bound + greatest_constant
    settled_within (Sort.Fin k) (Value.Con c) pick old fits small h = omega arith
    settled_within Sort.Proc (Value.Con c) pick old fits small h = omega arith
    settled_within Sort.Int (Value.Con c) pick old fits small h = omega arith
    settled_within (Sort.Fin k) (Value.Read t) pick old fits small h =
        let parts = and_parts (is_sort (sort_of (signature_of p) t) (Sort.Fin k)) (place_fits width t) fits in
        let there = has_term p s state width places fills t (sort_is_some (sort_of (signature_of p) t) (Sort.Fin k) parts.0) parts.1 in
        omega (arith, term_within s bound within places t there)
    settled_within Sort.Proc (Value.Read t) pick old fits small h = absurd (let e : false ≡ true = fits in cc)
    settled_within Sort.Int (Value.Read t) pick old fits small h = absurd (let e : false ≡ true = fits in cc)
    settled_within (Sort.Fin k) (Value.Proc side) pick old fits small h = omega arith
    settled_within Sort.Proc (Value.Proc side) pick old fits small h = omega arith
    settled_within Sort.Int (Value.Proc side) pick old fits small h = omega arith
    settled_within (Sort.Fin k) (Value.Sum base add) pick old fits small h = absurd (let e : false ≡ true = fits in cc)
    settled_within Sort.Proc (Value.Sum base add) pick old fits small h = absurd (let e : false ≡ true = fits in cc)
    settled_within Sort.Int (Value.Sum base add) pick old fits small h =
        let parts = and_parts (integer_side_fits (signature_of p) width base) (nat_le (unsigned_abs add) greatest_constant) fits in
        let there = has_integer_side p s state width places fills base parts.0 in
        sum_within (integer_at s places base) add bound (side_within s bound within places base there) (leb-true (unsigned_abs add) greatest_constant parts.1)
    settled_within sort Value.Any None old fits small h = omega arith
    settled_within sort Value.Any (Some v) old fits small h = omega (arith, small v refl)

    updated_within : (o : Option Update) (sort : Option Sort) (pick : Option Val) (old : Val) → ((u : Update) → o ≡ Some u → update_fits_sort (signature_of p) width sort u ≡ true) → ((v : Val) → pick ≡ Some v → size_of v ≡ 0) → size_of old ≤ bound → size_of (updated s places o pick old) ≤ bound + greatest_constant
    updated_within None sort pick old fits small h = omega arith
    updated_within (Some u) sort pick old fits small h =
        let parts = update_parts (signature_of p) width sort u (fits u refl) in
        settled_within parts.sort (counting s places u) pick old (counting_fits (signature_of p) width sort s places u parts) small h

  module _ (params : List ℕ) (count : ℕ) (fills : Fills s params count) (us : List Update) (fit : All (λ u. update_fits (signature_of p) count u ≡ true) us) (pick : Slot → Option Val) (small : (slot : Slot) (v : Val) → pick slot ≡ Some v → size_of v ≡ 0) where
    cell_within : (a k : ℕ) (x : Val) (alive : Bool) → is_alive s k ≡ alive → size_of x ≤ bound → size_of (cond alive (updated s (params ++ k ∷ []) (update_of us (Target.Array a)) (pick (Slot.Cell a k)) x) x) ≤ bound + greatest_constant
    cell_within a k x true is h =
        updated_within (count + 1) (params ++ k ∷ []) (fills_more s params count k fills (alive_within s k is)) (update_of us (Target.Array a)) (declared_sort p.arrays a) (pick (Slot.Cell a k)) x
        (target_fits (signature_of p) count us (Target.Array a) fit) (small (Slot.Cell a k)) h
    cell_within a k x false is h = omega arith

    pub fired_within : IsWithin (bound + greatest_constant) (fired s params us pick)
    fired_within = record {
      globals_within =
          all_map_from (λ v. size_of v ≤ bound) (λ v. size_of v ≤ bound + greatest_constant) (global_after s params us pick) 0 s.globals
          (λ g x h. updated_within count params fills (update_of us (Target.Global g)) (declared_sort p.globals g) (pick (Slot.Global g)) x
          (target_fits (signature_of p) count us (Target.Global g) fit) (small (Slot.Global g)) h) within.globals_within;
      cells_within =
          all_map_from (AreWithin bound) (AreWithin (bound + greatest_constant)) (cells_after s params us pick) 0 s.arrays
          (λ a cells each. all_map_from (λ v. size_of v ≤ bound) (λ v. size_of v ≤ bound + greatest_constant)
          (cell_after s params (update_of us (Target.Array a)) pick a) 0 cells
          (λ k x h. cell_within a k x (is_alive s k) refl h) each) within.cells_within;
    }
