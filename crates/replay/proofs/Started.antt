-- How the states are made with which a replay may begin.
use Rattle.std.proofs.Common.{◌≡◌, ℕ, zero, suc, ◌<◌, ◌≤◌, true, false, ◌&&◌, nat_lt, nat_le, List, [], ◌∷◌, Option, Some, None, length, get_or, set, map, replicate, refl, sym, ap, subst, ◌∙◌, arith, All, IsTrue, slice_get}
use Rattle.std.specs.Option.{option_map}
use Rattle.std.specs.List.{AllZip}
use Rattle.std.proofs.lemmas.Bool.{and_parts, ltb-true, leb-true}
use Rattle.std.proofs.lemmas.List.{length-set, length-replicate, get_or-replicate}
use Rattle.std.proofs.lemmas.List.Elements.{All-set, All-head, All-tail, All-nil, All-replicate, All-map}
use Rattle.std.proofs.lemmas.Option.{slice_get-get_or}
use Rattle.cub_base.specs.Name.{is_declarable}
use Rattle.cub_proto.specs.declared.literal.Sort.{Sort}
use Rattle.cub_proto.specs.declared.state.Slot.{Slot}
use Rattle.cub_proto.specs.declared.state.Val.{Val}
use Rattle.cub_proto.specs.declared.state.Val.TheVariants.{Con}
use Rattle.cub_proto.specs.declared.protocol.Decl.{Decl}
use Rattle.cub_proto.specs.declared.protocol.SortDecl.{SortDecl}
use Rattle.cub_proto.specs.declared.protocol.Protocol.{Protocol}
use Rattle.cub_proto.specs.Configuration.{Configuration, process_count, cells_of, IsAlive, HasSlot, put}
use Rattle.cub_proto.specs.Signature.{declared_sort, constructors_of, same_sort}
use Rattle.cub_proto.specs.Fits.{sort_is_there, global_fits, array_fits}
use Rattle.cub_proto.specs.First.{first_value}
use Rattle.cub_proto.specs.StateOf.{IsStateOf, IsOfSort, AreCells, signature_of, first_state}
use Rattle.cub_proto.proofs.Constructors.{declared_size}
use Rattle.replay.specs.Bound.{size_of, AreWithin, IsWithin, greatest_start}
use Rattle.replay.specs.FitsEvent.{is_declared, slot_takes}
use Rattle.replay.specs.FitsStart.{FitsStart, is_start_value}
use Rattle.replay.proofs.LegalFault.{of_sort}
use Rattle.cub_proto.proofs.Readable.{global_there, array_there}
use Rattle.std.proofs.Common.{not, is_some, inl, inr}
use Rattle.std.proofs.lemmas.Bool.{cases_lt}
use Rattle.std.proofs.lemmas.List.{get_or_past}

zip_map : {A B : Type 0} (P : A → Type 0) (R : A → B → Type 0) (f : A → B) (xs : List A) → ((x : A) → P x → R x (f x)) → All P xs → AllZip R xs (map f xs)
zip_map P R f [] fits each = tt
zip_map P R f (x ∷ xs) fits each = (fits x (All-head P x xs each), zip_map P R f xs fits (All-tail P x xs each))

zip_set : {A B : Type 0} (R : A → B → Type 0) (xs : List A) (ys : List B) (i : ℕ) (v e : B) → AllZip R xs ys → ((x : A) → slice_get xs i ≡ Some x → R x (get_or ys i e) → R x v) → AllZip R xs (set ys i v)
zip_set R [] [] i v e zip here = zip
zip_set R [] (y ∷ ys) i v e zip here = absurd zip
zip_set R (x ∷ xs) [] i v e zip here = absurd zip
zip_set R (x ∷ xs) (y ∷ ys) zero v e zip here = (here x refl zip.0, zip.1)
zip_set R (x ∷ xs) (y ∷ ys) (suc i) v e zip here = (zip.0, zip_set R xs ys i v e zip.1 here)

-- a declared sort has a constructor
some_constructor : (p : Protocol) (k : ℕ) → nat_lt k (length p.sorts) ≡ true → 0 < constructors_of (signature_of p) (Sort.Fin k)
some_constructor p k h =
    let none : SortDecl = record { name = []; cons = [] } in
    let there = slice_get-get_or p.sorts k none (ltb-true k (length p.sorts) h) in
    let size = declared_size p k (get_or p.sorts k none) there in
    rw there size.some

first_of_sort : (p : Protocol) (n : ℕ) (sort : Sort) → 0 < n → sort_is_there p.sorts sort ≡ true → IsOfSort (signature_of p) n sort (first_value sort)
first_of_sort p n (Sort.Fin k) some there = some_constructor p k there
first_of_sort p n Sort.Proc some there = some
first_of_sort p n Sort.Int some there = tt

first_small : (sort : Sort) → size_of (first_value sort) ≤ greatest_start
first_small (Sort.Fin k) = omega arith
first_small Sort.Proc = omega arith
first_small Sort.Int = omega arith

pub first_fits : (p : Protocol) (n : ℕ) → 0 < n → FitsStart p (first_state p n)
first_fits p n some = record {
  state_of = record {
    some_process = omega (arith, length-replicate n true);
    globals_fit =
        zip_map (λ d. IsTrue (global_fits p.sorts d)) (λ d v. IsOfSort (signature_of p) (length (replicate n true)) d.sort v) (λ d. first_value d.sort) p.globals
        (λ d h. first_of_sort p (length (replicate n true)) d.sort (omega (arith, length-replicate n true)) (and_parts (is_declarable d.name) (sort_is_there p.sorts d.sort) h).1) p.globals_fit;
    arrays_fit =
        zip_map (λ d. IsTrue (array_fits p.sorts d)) (AreCells (signature_of p) (length (replicate n true))) (λ d. replicate n (first_value d.sort)) p.arrays
        (λ d h. record {
          one_each = length-replicate n (first_value d.sort) ∙ sym (length-replicate n true);
          fit = All-replicate (IsOfSort (signature_of p) (length (replicate n true)) d.sort) n (first_value d.sort)
              (first_of_sort p (length (replicate n true)) d.sort (omega (arith, length-replicate n true))
              (and_parts (is_declarable d.name) (sort_is_there p.sorts d.sort) (and_parts (is_declarable d.name && sort_is_there p.sorts d.sort) (not (same_sort d.sort Sort.Proc)) h).0).1);
        }) p.arrays_fit;
  };
  alive = λ i within. get_or-replicate n i true false (omega (arith, length-replicate n true));
  within = record {
    globals_within = All-map (λ v. size_of v ≤ greatest_start) (λ d. first_value d.sort) p.globals (λ k d h. first_small (get_or p.globals k d).sort);
    cells_within = All-map (AreWithin greatest_start) (λ d. replicate n (first_value d.sort)) p.arrays
        (λ k d h. All-replicate (λ v. size_of v ≤ greatest_start) n (first_value (get_or p.arrays k d).sort) (first_small (get_or p.arrays k d).sort));
  };
}

declared_of : (p : Protocol) (n : ℕ) (decls : List Decl) (g : ℕ) (d : Decl) (v : Val) → slice_get decls g ≡ Some d → is_declared (signature_of p) n (declared_sort decls g) v ≡ true → IsOfSort (signature_of p) n d.sort v
declared_of p n decls g d v is h =
    of_sort (signature_of p) n d.sort v (sym (ap (λ o. is_declared (signature_of p) n (option_map (λ x. x.sort) o) v) is) ∙ h)

declared_some : (p : Protocol) (n : ℕ) (o : Option Sort) (v : Val) → is_declared (signature_of p) n o v ≡ true → is_some o ≡ true
declared_some p n None v h = absurd (let e : false ≡ true = h in cc)
declared_some p n (Some sort) v h = refl

put_within : (s : Configuration) (bound : ℕ) (slot : Slot) (v : Val) → IsWithin bound s → size_of v ≤ bound → IsWithin bound (put s slot v)
put_within s bound (Slot.Global g) v within small = record {
  globals_within = All-set (λ w. size_of w ≤ bound) s.globals g v small within.globals_within;
  cells_within = within.cells_within;
}
put_within s bound (Slot.Cell a i) v within small = record {
  globals_within = within.globals_within;
  cells_within = All-set (AreWithin bound) s.arrays a (set (cells_of s a) i v)
      (All-set (λ w. size_of w ≤ bound) (cells_of s a) i v small (cells_small s bound a within)) within.cells_within;
}
  where
    cells_small : (t : Configuration) (most : ℕ) (b : ℕ) → IsWithin most t → AreWithin most (cells_of t b)
    cells_small t most b w =
        elim (cases_lt b (length t.arrays)) as (λ _. AreWithin most (cells_of t b)) [
          | inl inside ↦ w.cells_within b [] inside
          | inr past ↦ subst (AreWithin most) (sym (get_or_past t.arrays b [] past)) (All-nil (λ x. size_of x ≤ most))
        ]

put_state : (p : Protocol) (s : Configuration) (slot : Slot) (v : Val) → IsStateOf p s → slot_takes p (process_count s) slot v ≡ true → IsStateOf p (put s slot v)
put_state p s (Slot.Global g) v state takes = record {
  some_process = state.some_process;
  globals_fit =
      zip_set (λ d w. IsOfSort (signature_of p) (process_count s) d.sort w) p.globals s.globals g v (Con 0) state.globals_fit
      (λ d is old. declared_of p (process_count s) p.globals g d v is takes);
  arrays_fit = state.arrays_fit;
}
put_state p s (Slot.Cell a i) v state takes = record {
  some_process = state.some_process;
  globals_fit = state.globals_fit;
  arrays_fit =
      zip_set (AreCells (signature_of p) (process_count s)) p.arrays s.arrays a (set (cells_of s a) i v) [] state.arrays_fit
      (λ d is old. record {
        one_each = length-set (cells_of s a) i v ∙ old.one_each;
        fit = All-set (IsOfSort (signature_of p) (process_count s) d.sort) (cells_of s a) i v
            (declared_of p (process_count s) p.arrays a d v is (and_parts (nat_lt i (process_count s)) (is_declared (signature_of p) (process_count s) (declared_sort p.arrays a) v) takes).1) old.fit;
      });
}

-- a start value put into its slot
pub put_fits : (p : Protocol) (s : Configuration) (slot : Slot) (v : Val) → FitsStart p s → is_start_value p (process_count s) slot v ≡ true → FitsStart p (put s slot v)
put_fits p s slot v fits h =
    let parts = and_parts (slot_takes p (process_count s) slot v) (nat_le (size_of v) greatest_start) h in
    record {
      state_of = put_state p s slot v fits.state_of parts.0;
      alive = alive slot;
      within = put_within s greatest_start slot v fits.within (leb-true (size_of v) greatest_start parts.1);
    }
  where
    alive : (w : Slot) (i : ℕ) → i < process_count (put s w v) → IsAlive (put s w v) i
    alive (Slot.Global g) i inside = fits.alive i inside
    alive (Slot.Cell a j) i inside = fits.alive i inside

-- its slot is there
pub takes_there : (p : Protocol) (s : Configuration) (slot : Slot) (v : Val) → IsStateOf p s → is_start_value p (process_count s) slot v ≡ true → HasSlot s slot
takes_there p s slot v state h = there slot (and_parts (slot_takes p (process_count s) slot v) (nat_le (size_of v) greatest_start) h).0
  where
    there : (w : Slot) → slot_takes p (process_count s) w v ≡ true → HasSlot s w
    there (Slot.Global g) takes =
        global_there p s state g (declared_some p (process_count s) (declared_sort p.globals g) v takes)
    there (Slot.Cell a i) takes =
        (let parts = and_parts (nat_lt i (process_count s)) (is_declared (signature_of p) (process_count s) (declared_sort p.arrays a) v) takes in
        let has = array_there p s state a (declared_some p (process_count s) (declared_sort p.arrays a) v parts.1) in
        (has.0, omega (arith, has.1, ltb-true i (process_count s) parts.0)))
