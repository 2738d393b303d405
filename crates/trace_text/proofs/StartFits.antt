-- The values of a state with which a replay may begin are start values.
use Rattle.std.proofs.Common.{◌≡◌, ℕ, zero, suc, ◌≤◌, true, nat_lt, List, [], ◌∷◌, length, get_or, Some, refl, ap, subst, ◌∙◌, arith, lt-ltb}
use Rattle.std.specs.Prelude.{slice_get, nat_le}
use Rattle.std.specs.Option.{option_map}
use Rattle.std.proofs.lemmas.Bool.{and_from, le-leb}
use Rattle.cub_base.proofs.Elements.{zip_at}
use Rattle.cub_proto.specs.declared.literal.Sort.{Sort}
use Rattle.cub_proto.specs.declared.protocol.Protocol.{Protocol}
use Rattle.cub_proto.specs.declared.state.Slot.TheVariants as Slot
use Rattle.cub_proto.specs.declared.state.Val.{Val}
use Rattle.cub_proto.specs.declared.state.Val.TheVariants.{Con, Proc, Int}
use Rattle.cub_proto.specs.Configuration.{Configuration, process_count}
use Rattle.cub_proto.specs.Signature.{Signature, constructors_of, declared_sort}
use Rattle.cub_proto.specs.StateOf.{signature_of, IsOfSort, AreCells}
use Rattle.replay.specs.Bound.{size_of, greatest_start, AreWithin}
use Rattle.replay.specs.FitsEvent.{is_of_sort, is_declared, slot_takes}
use Rattle.replay.specs.FitsStart.{FitsStart, is_start_value}
use Rattle.trace_text.proofs.ToldLaws.{within_list}
use Rattle.trace_text.proofs.StartLaws.{globals_len, arrays_len, nth}

of_sort_test : (sig : Signature) (n : ℕ) (sort : Sort) (v : Val) → IsOfSort sig n sort v → is_of_sort sig n sort v ≡ true
of_sort_test sig n (Sort.Fin k) (Con c) h = lt-ltb c (constructors_of sig (Sort.Fin k)) h
of_sort_test sig n (Sort.Fin k) (Proc i) h = absurd h
of_sort_test sig n (Sort.Fin k) (Int z) h = absurd h
of_sort_test sig n Sort.Proc (Con c) h = absurd h
of_sort_test sig n Sort.Proc (Proc i) h = lt-ltb i n h
of_sort_test sig n Sort.Proc (Int z) h = absurd h
of_sort_test sig n Sort.Int (Con c) h = absurd h
of_sort_test sig n Sort.Int (Proc i) h = absurd h
of_sort_test sig n Sort.Int (Int z) h = refl

pub get_is : {X : Type 0} (xs : List X) (i : ℕ) (x d : X) → slice_get xs i ≡ Some x → get_or xs i d ≡ x
get_is [] i x d h = cc
get_is (y ∷ ys) zero x d h = cc
get_is (y ∷ ys) (suc i) x d h = get_is ys i x d h

module _ (p : Protocol) (s : Configuration) (fits : FitsStart p s) where
  pub global_fits_start : (k : ℕ) (v : Val) → slice_get s.globals k ≡ Some v → is_start_value p (process_count s) (Slot.Global k) v ≡ true
  global_fits_start k v is =
      let inside = within_list s.globals k v is in
      let len = globals_len p s fits in
      let d = nth p.globals k (omega arith) in
      let there = get_is s.globals k v v is in
      let typed : IsOfSort (signature_of p) (process_count s) d.0.sort v =
      subst (λ w. IsOfSort (signature_of p) (process_count s) d.0.sort w) there
      (zip_at (λ x w. IsOfSort (signature_of p) (process_count s) x.sort w) p.globals s.globals k d.0 v fits.state_of.globals_fit d.1) in
      let small : size_of v ≤ greatest_start = subst (λ w. size_of w ≤ greatest_start) there (fits.within.globals_within k v inside) in
      and_from (slot_takes p (process_count s) (Slot.Global k) v) (nat_le (size_of v) greatest_start)
      (ap (λ o. is_declared (signature_of p) (process_count s) (option_map (λ x. x.sort) o) v) d.1 ∙ of_sort_test (signature_of p) (process_count s) d.0.sort v typed)
      (le-leb (size_of v) greatest_start small)

  pub cells_fit_start : (a : ℕ) (cells : List Val) → slice_get s.arrays a ≡ Some cells
      → (length cells ≡ process_count s) × ((i : ℕ) (v : Val) → slice_get cells i ≡ Some v → is_start_value p (process_count s) (Slot.Cell a i) v ≡ true)
  cells_fit_start a cells is =
      let inside = within_list s.arrays a cells is in
      let len = arrays_len p s fits in
      let d = nth p.arrays a (omega arith) in
      let there = get_is s.arrays a cells [] is in
      let own : AreCells (signature_of p) (process_count s) d.0 cells =
      subst (λ xs. AreCells (signature_of p) (process_count s) d.0 xs) there
      (zip_at (AreCells (signature_of p) (process_count s)) p.arrays s.arrays a d.0 [] fits.state_of.arrays_fit d.1) in
      let within : AreWithin greatest_start cells = subst (λ xs. AreWithin greatest_start xs) there (fits.within.cells_within a [] inside) in
      let full = own.one_each in (
        own.one_each,
        λ i v it.
            let below = within_list cells i v it in
            let here = get_is cells i v v it in
            let typed : IsOfSort (signature_of p) (process_count s) d.0.sort v = subst (λ w. IsOfSort (signature_of p) (process_count s) d.0.sort w) here (own.fit i v below) in
            let small : size_of v ≤ greatest_start = subst (λ w. size_of w ≤ greatest_start) here (within i v below) in
            and_from (slot_takes p (process_count s) (Slot.Cell a i) v) (nat_le (size_of v) greatest_start)
            (and_from (nat_lt i (process_count s)) (is_declared (signature_of p) (process_count s) (declared_sort p.arrays a) v) (lt-ltb i (process_count s) (omega arith))
            (ap (λ o. is_declared (signature_of p) (process_count s) (option_map (λ x. x.sort) o) v) d.1 ∙ of_sort_test (signature_of p) (process_count s) d.0.sort v typed))
            (le-leb (size_of v) greatest_start small),
      )
