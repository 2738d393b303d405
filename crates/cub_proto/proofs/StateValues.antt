-- What a state of a protocol gives: its values are of their sorts.
use Rattle.std.proofs.Common.{◌≡◌, ◌⊎◌, ℕ, zero, suc, ◌<◌, ◌≤◌, Bool, true, false, List, [], ◌∷◌, length, get_or, Option, Some, None, refl, sym, ap, subst, inl, inr}
use Rattle.std.specs.Prelude.{slice_get, slice_index, All}
use Rattle.std.proofs.lemmas.Bool.{ltb-true, eqb-true}
use Rattle.std.proofs.lemmas.List.{get_or_past}
use Rattle.std.proofs.lemmas.Option.{slice_get_cases}
use Rattle.cub_proto.specs.declared.literal.Sort.{Sort}
use Rattle.cub_proto.specs.declared.literal.Term.{Term}
use Rattle.cub_proto.specs.declared.state.Val.TheVariants.{Con}
use Rattle.cub_proto.specs.declared.protocol.Decl.{Decl}
use Rattle.cub_proto.specs.declared.protocol.Protocol.{Protocol}
use Rattle.cub_proto.specs.Configuration.{Configuration, process_count, IsAlive, cells_of}
use Rattle.cub_proto.specs.Signature.{declared_sort, sort_of, same_sort, is_sort}
use Rattle.cub_proto.specs.StateOf.{IsStateOf, IsOfSort, AreCells, signature_of}
use Rattle.cub_proto.specs.Truth.{term_value}
use Rattle.cub_proto.specs.Fits.{place_fits, term_fits}
use Rattle.cub_base.proofs.Bools.{and_left, and_right}
use Rattle.cub_base.proofs.Elements.{zip_at}

-- the declaration whose sort it is
pub declared_is : (decls : List Decl) (n : ℕ) (sort : Sort) → declared_sort decls n ≡ Some sort → (d : Decl) × (slice_get decls n ≡ Some d) × (d.sort ≡ sort)
declared_is [] n sort h = cc
declared_is (d ∷ decls) zero sort h = let same : d.sort ≡ sort = cc in (d, refl, same)
declared_is (d ∷ decls) (suc n) sort h = declared_is decls n sort h

-- an alive process is there
pub alive_within : (s : Configuration) (i : ℕ) → IsAlive s i → i < process_count s
alive_within s i alive = by (slice_get_cases s.living i).1
  where
    by : ((x : Bool) × (i < length s.living) × (slice_get s.living i ≡ Some x) × (get_or s.living i x ≡ x)) ⊎ ((length s.living ≤ i) × (slice_get s.living i ≡ None)) → i < process_count s
    by (inl found) = found.1
    by (inr past) = let none = get_or_past s.living i false past.0 in cc

-- the same sort by the test
pub same_sort_is : (a b : Sort) → same_sort a b ≡ true → a ≡ b
same_sort_is (Sort.Fin j) (Sort.Fin k) h = let e : j ≡ k = eqb-true j k h in ap (λ n. Sort.Fin n) e
same_sort_is (Sort.Fin j) Sort.Proc h = cc
same_sort_is (Sort.Fin j) Sort.Int h = cc
same_sort_is Sort.Proc (Sort.Fin k) h = cc
same_sort_is Sort.Proc Sort.Proc h = refl
same_sort_is Sort.Proc Sort.Int h = cc
same_sort_is Sort.Int (Sort.Fin k) h = cc
same_sort_is Sort.Int Sort.Proc h = cc
same_sort_is Sort.Int Sort.Int h = refl

pub sort_is : (o : Option Sort) (sort : Sort) → is_sort o sort ≡ true → o ≡ Some sort
sort_is None sort h = cc
sort_is (Some other) sort h = ap (λ s. Some s) (same_sort_is other sort h)

module _ (p : Protocol) (s : Configuration) (state : IsStateOf p s) where
  -- the value of a declared global is of its sort
  pub global_value : (g : ℕ) (sort : Sort) → declared_sort p.globals g ≡ Some sort → IsOfSort (signature_of p) (process_count s) sort (get_or s.globals g (Con 0))
  global_value g sort is =
      let d = declared_is p.globals g sort is in
      subst (λ v. IsOfSort (signature_of p) (process_count s) v (get_or s.globals g (Con 0))) d.2
      (zip_at (λ d v. IsOfSort (signature_of p) (process_count s) d.sort v) p.globals s.globals g d.0 (Con 0) state.globals_fit d.1)

  -- the cell of a process is of its array's sort
  pub cell_value : (a i : ℕ) (sort : Sort) → declared_sort p.arrays a ≡ Some sort → i < process_count s → IsOfSort (signature_of p) (process_count s) sort (get_or (cells_of s a) i (Con 0))
  cell_value a i sort is within =
      let d = declared_is p.arrays a sort is in
      let cells : AreCells (signature_of p) (process_count s) d.0 (cells_of s a) = zip_at (AreCells (signature_of p) (process_count s)) p.arrays s.arrays a d.0 [] state.arrays_fit d.1 in
      let inside : i < length (cells_of s a) = subst (λ n. i < n) (sym cells.one_each) within in
      subst (λ v. IsOfSort (signature_of p) (process_count s) v (get_or (cells_of s a) i (Con 0))) d.2 (cells.fit i (Con 0) inside)

  -- the value of a term is of its sort
  pub value_of_sort : (places : List ℕ) (t : Term) (sort : Sort) → All (λ i. i < process_count s) places → place_fits (length places) t ≡ true → sort_of (signature_of p) t ≡ Some sort
      → IsOfSort (signature_of p) (process_count s) sort (term_value s places t)
  value_of_sort places (Term.Global g) sort processes fits is = global_value g sort is
  value_of_sort places (Term.Cell a q) sort processes fits is =
      cell_value a (slice_index places q) sort is (processes q 0 (ltb-true q (length places) fits))

  -- a term that fits a sort has a value of it
  pub fitting_value : (places : List ℕ) (t : Term) (sort : Sort) → All (λ i. i < process_count s) places → term_fits (signature_of p) (length places) sort t ≡ true
      → IsOfSort (signature_of p) (process_count s) sort (term_value s places t)
  fitting_value places t sort processes fits =
      value_of_sort places t sort processes
      (and_right (is_sort (sort_of (signature_of p) t) sort) (place_fits (length places) t) fits)
      (sort_is (sort_of (signature_of p) t) sort (and_left (is_sort (sort_of (signature_of p) t) sort) (place_fits (length places) t) fits))
