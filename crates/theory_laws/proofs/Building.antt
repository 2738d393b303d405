-- The built state: it is a state of the protocol, and its literals are true as the values say.
use Rattle.std.proofs.Common.{◌≡◌, ℕ, zero, suc, ◌+◌, ◌<◌, ◌≤◌, true, false, not, cond, List, [], ◌∷◌, length, get_or, Option, Some, None, ◌-ℤ◌, refl, sym, ap, ◌∙◌, subst, arith, add-zero}
use Rattle.std.specs.Prelude.{slice_get, slice_index, All, IsTrue, ◌&&◌, ◌==◌, nat_le, int_le}
use Rattle.std.specs.List.{AllZip}
use Rattle.std.specs.Option.{option_map_or}
use Rattle.std.proofs.lemmas.Bool.{ltb-true, leb-true, lt-ltb}
use Rattle.std.proofs.lemmas.List.{length-replicate, get_or-replicate}
use Rattle.std.proofs.lemmas.List.FromFn.{length-map-range_with_len, get_or-map-range_with_len}
use Rattle.cub_proto.specs.declared.literal.Sort.{Sort}
use Rattle.cub_proto.specs.declared.literal.Term.{Term}
use Rattle.cub_proto.specs.declared.literal.PSide.{PSide}
use Rattle.cub_proto.specs.declared.literal.ISide.{ISide}
use Rattle.cub_proto.specs.declared.literal.ISide.TheVariants.{Zero, At}
use Rattle.cub_proto.specs.declared.literal.Lit.{Lit}
use Rattle.cub_proto.specs.declared.literal.Lit.TheVariants.{FinIn, FinEq, FinNe, ProcEq, ProcNe, Diff}
use Rattle.cub_proto.specs.declared.state.Slot.TheVariants as Slot
use Rattle.cub_proto.specs.declared.state.Val.TheVariants.{Con}
use Rattle.cub_proto.specs.declared.protocol.Decl.{Decl}
use Rattle.cub_proto.specs.declared.protocol.Protocol.{Protocol}
use Rattle.cub_proto.specs.Configuration.{Configuration, process_count, IsAlive, cells_of, value_at}
use Rattle.cub_proto.specs.Signature.{declared_sort, sort_of, constructors_of, same_sort, is_sort, same_finite}
use Rattle.cub_proto.specs.StateOf.{IsStateOf, IsOfSort, AreCells, signature_of}
use Rattle.cub_proto.specs.Truth.{constructor_of, process_of, integer_of, term_value, constructor_at, process_at, integer_at, is_true, has_bit}
use Rattle.cub_proto.specs.Fits.{is_finite, place_fits, process_side_fits, integer_side_fits, literal_fits, array_fits}
use Rattle.cub_base.specs.Numbered.{map_from}
use Rattle.cub_base.proofs.Bools.{and_left, and_right}
use Rattle.cub_proto.proofs.StateValues.{declared_is, sort_is}
use Rattle.diff_close.specs.Literals.{side_value}
use Rattle.theory_laws.specs.Built.{Values, value_of, home, global_value, cell_values, built, is_true_of}
use Rattle.theory_laws.specs.Solved.{AreValues}

-- ---- lists made item by item
-- what holds of each item and what is made of it holds of the two lists
zip_made : {A B : Type 0} (R : A → B → Type 0) (f : ℕ → A → B) (xs : List A) (k : ℕ)
    → ((i : ℕ) (x : A) → slice_get xs i ≡ Some x → R x (f (k + i) x)) → AllZip R xs (map_from f k xs)
zip_made R f [] k each = tt
zip_made R f (x ∷ xs) k each = (
  subst (λ n. R x (f n x)) (add-zero k) (each 0 x refl),
  zip_made R f xs (k + 1) (λ i u is. let same : k + suc i ≡ (k + 1) + i = omega arith in subst (λ n. R u (f n u)) same (each (suc i) u is)),
)

-- an item that is made
made_at : {A B : Type 0} (f : ℕ → A → B) (xs : List A) (k i : ℕ) (x : A) (e : B) → slice_get xs i ≡ Some x → get_or (map_from f k xs) i e ≡ f (k + i) x
made_at f [] k i x e is = cc
made_at f (y ∷ ys) k zero x e is =
    let same : y ≡ x = cc in
    ap (λ n. f n y) (sym (add-zero k)) ∙ ap (f (k + 0)) same
made_at f (y ∷ ys) k (suc i) x e is =
    let same : (k + 1) + i ≡ k + suc i = omega arith in
    made_at f ys (k + 1) i x e is ∙ ap (λ n. f n x) same

pub made_first : {A B : Type 0} (f : ℕ → A → B) (xs : List A) (i : ℕ) (x : A) (e : B) → slice_get xs i ≡ Some x → get_or (map_from f 0 xs) i e ≡ f i x
made_first f xs i x e is = let same : 0 + i ≡ i = omega arith in made_at f xs 0 i x e is ∙ ap (λ n. f n x) same

-- ---- sorts
pub finite_is : (o : Option Sort) → is_finite o ≡ true → (k : ℕ) × (o ≡ Some (Sort.Fin k))
finite_is (Some (Sort.Fin k)) h = (k, refl)
finite_is (Some Sort.Proc) h = cc
finite_is (Some Sort.Int) h = cc
finite_is None h = cc

pub same_finite_left : (o q : Option Sort) → same_finite o q ≡ true → is_finite o ≡ true
same_finite_left (Some (Sort.Fin k)) q h = refl
same_finite_left (Some Sort.Proc) q h = cc
same_finite_left (Some Sort.Int) q h = cc
same_finite_left None q h = cc

pub same_finite_right : (o q : Option Sort) → same_finite o q ≡ true → is_finite q ≡ true
same_finite_right (Some (Sort.Fin k)) q h = ap is_finite (sort_is q (Sort.Fin k) h)
same_finite_right (Some Sort.Proc) q h = cc
same_finite_right (Some Sort.Int) q h = cc
same_finite_right None q h = cc

-- a declared sort is that of its declaration
pub declared_by : (decls : List Decl) (i : ℕ) (d : Decl) → slice_get decls i ≡ Some d → declared_sort decls i ≡ Some d.sort
declared_by [] i d is = cc
declared_by (e ∷ es) zero d is = let same : e ≡ d = cc in ap (λ x. Some x.sort) same
declared_by (e ∷ es) (suc i) d is = declared_by es i d is

module _ (p : Protocol) where
  pub few_globals : length p.globals ≤ 64
  few_globals = leb-true (length p.globals) 64 (and_right (nat_le (length p.sorts) 257) (nat_le (length p.globals) 64)
      (and_left _ _ (and_left _ _ (and_left _ _ (and_left _ _ (and_left _ _ p.few))))))

  pub few_arrays : length p.arrays ≤ 32
  few_arrays = leb-true (length p.arrays) 32 (and_right _ (nat_le (length p.arrays) 32)
      (and_left _ _ (and_left _ _ (and_left _ _ p.few))))

-- the state that values make
module _ (p : Protocol) (width n : ℕ) (v : Values) (values : AreValues p width n v) where
  abbrev s : Configuration
  s = built p width n v

  pub count_is : process_count s ≡ n
  count_is = length-replicate n true

  -- a value by its sort is of the sort; no cell has a process
  of_sort : (sort : Sort) (t : Term) → sort_of (signature_of p) t ≡ Some sort → (sort ≡ Sort.Proc → (g : ℕ) × (t ≡ Term.Global g)) → IsOfSort (signature_of p) n sort (value_of v sort t)
  of_sort (Sort.Fin k) t is proc =
      subst (λ o. v.constructor t < option_map_or (constructors_of (signature_of p)) o 0) is
      (values.inside t (subst (λ o. IsTrue (is_finite o)) (sym is) refl))
  of_sort Sort.Proc (Term.Global g) is proc = values.below g is
  of_sort Sort.Proc (Term.Cell a q) is proc =
      let at = proc refl in
      let wrong : Term.Cell a q ≡ Term.Global at.0 = at.1 in
      absurd (cc)
  of_sort Sort.Int t is proc = tt

  global_fits_sort : (g : ℕ) (d : Decl) → slice_get p.globals g ≡ Some d → IsOfSort (signature_of p) n d.sort (global_value v g d)
  global_fits_sort g d is = of_sort d.sort (Term.Global g) (declared_by p.globals g d is) (λ _. (g, refl))

  -- no array holds processes
  no_processes : (a : ℕ) (d : Decl) → slice_get p.arrays a ≡ Some d → d.sort ≡ Sort.Proc → ⊥
  no_processes a d is proc =
      let fits : IsTrue (array_fits p.sorts d) = fits_at p.arrays a d is p.arrays_fit in
      let last : not (same_sort d.sort Sort.Proc) ≡ true = and_right _ (not (same_sort d.sort Sort.Proc)) fits in
      let wrong : not (same_sort Sort.Proc Sort.Proc) ≡ true = subst (λ x. not (same_sort x Sort.Proc) ≡ true) proc last in
      cc
    where
      fits_at : (ds : List Decl) (i : ℕ) (e : Decl) → slice_get ds i ≡ Some e → All (λ x. IsTrue (array_fits p.sorts x)) ds → IsTrue (array_fits p.sorts e)
      fits_at [] i e here all = cc
      fits_at (x ∷ xs) zero e here all = let same : x ≡ e = cc in subst (λ y. IsTrue (array_fits p.sorts y)) same (all 0 e (omega arith))
      fits_at (x ∷ xs) (suc i) e here all = fits_at xs i e here (λ k y below. all (suc k) y (omega arith))

  cells_fit_sort : (a : ℕ) (d : Decl) → slice_get p.arrays a ≡ Some d → AreCells (signature_of p) n d (cell_values width n v a d)
  cells_fit_sort a d is = record {
    one_each = length-map-range_with_len (λ i. value_of v d.sort (Term.Cell a (home width i))) 0 n;
    fit = λ i e below.
        let inside : i < n = omega (arith, below, length-map-range_with_len (λ i. value_of v d.sort (Term.Cell a (home width i))) 0 n) in
        let zero_on : 0 + i ≡ i = omega arith in
        subst (λ x. IsOfSort (signature_of p) n d.sort x) (sym (get_or-map-range_with_len (λ i. value_of v d.sort (Term.Cell a (home width i))) 0 n i i e inside zero_on))
        (of_sort d.sort (Term.Cell a (home width i)) (declared_by p.arrays a d is) (λ proc. absurd (no_processes a d is proc)));
  }

  pub is_state : IsStateOf p s
  is_state = record {
    some_process = omega (arith, count_is, values.some);
    globals_fit = subst (λ k. AllZip (λ d x. IsOfSort (signature_of p) k d.sort x) p.globals s.globals) (sym count_is)
        (zip_made (λ d x. IsOfSort (signature_of p) n d.sort x) (global_value v) p.globals 0
        (λ i d is. let same : 0 + i ≡ i = omega arith in subst (λ k. IsOfSort (signature_of p) n d.sort (global_value v k d)) (sym same) (global_fits_sort i d is)));
    arrays_fit = subst (λ k. AllZip (AreCells (signature_of p) k) p.arrays s.arrays) (sym count_is)
        (zip_made (AreCells (signature_of p) n) (cell_values width n v) p.arrays 0
        (λ i d is. let same : 0 + i ≡ i = omega arith in subst (λ k. AreCells (signature_of p) n d (cell_values width n v k d)) (sym same) (cells_fit_sort i d is)));
  }

  pub all_alive : (i : ℕ) → i < process_count s → IsAlive s i
  all_alive i below = get_or-replicate n i true false (omega (arith, below, count_is))

  global_is : (g : ℕ) (sort : Sort) → declared_sort p.globals g ≡ Some sort → value_at s (Slot.Global g) ≡ value_of v sort (Term.Global g)
  global_is g sort is =
      let d = declared_is p.globals g sort is in
      made_first (global_value v) p.globals g d.0 (Con 0) d.1 ∙ ap (λ x. value_of v x (Term.Global g)) d.2

  pub cell_is : (a i : ℕ) (sort : Sort) → declared_sort p.arrays a ≡ Some sort → i < n → value_at s (Slot.Cell a i) ≡ value_of v sort (Term.Cell a (home width i))
  cell_is a i sort is below =
      let d = declared_is p.arrays a sort is in
      let zero_on : 0 + i ≡ i = omega arith in
      let cells : cells_of s a ≡ cell_values width n v a d.0 = made_first (cell_values width n v) p.arrays a d.0 [] d.1 in
      ap (λ x. get_or x i (Con 0)) cells ∙ get_or-map-range_with_len (λ k. value_of v d.0.sort (Term.Cell a (home width k))) 0 n i i (Con 0) below zero_on
      ∙ ap (λ x. value_of v x (Term.Cell a (home width i))) d.2

  home_is : (i : ℕ) → i < width → home width i ≡ i
  home_is i below = ap (λ b. cond b i 0) (lt-ltb i width below)

  -- where the first processes are at the places
  module _ (places : List ℕ) (own : (q : ℕ) → q < width → slice_index places q ≡ q) where
    pub term_is : (t : Term) (sort : Sort) → sort_of (signature_of p) t ≡ Some sort → IsTrue (place_fits width t) → term_value s places t ≡ value_of v sort t
    term_is (Term.Global g) sort is placed = global_is g sort is
    term_is (Term.Cell a q) sort is placed =
        let below : q < width = ltb-true q width placed in
        let at = own q below in
        ap (λ i. value_at s (Slot.Cell a i)) at ∙ cell_is a q sort is (omega (arith, below, values.room)) ∙ ap (λ i. value_of v sort (Term.Cell a i)) (home_is q below)

    constructor_is : (t : Term) → IsTrue (is_finite (sort_of (signature_of p) t)) → IsTrue (place_fits width t) → constructor_at s places t ≡ v.constructor t
    constructor_is t finite placed =
        let k = finite_is (sort_of (signature_of p) t) finite in
        ap constructor_of (term_is t (Sort.Fin k.0) k.1 placed)

    constructors_are : (a b : Term) → IsTrue (literal_fits (signature_of p) width (FinEq a b)) → (constructor_at s places a ≡ v.constructor a) × (constructor_at s places b ≡ v.constructor b)
    constructors_are a b fits =
        let sorts = same_finite (sort_of (signature_of p) a) (sort_of (signature_of p) b) in
        let left = and_left (sorts && place_fits width a) (place_fits width b) fits in
        let same = and_left sorts (place_fits width a) left in (
          constructor_is a (same_finite_left (sort_of (signature_of p) a) (sort_of (signature_of p) b) same) (and_right sorts (place_fits width a) left),
          constructor_is b (same_finite_right (sort_of (signature_of p) a) (sort_of (signature_of p) b) same) (and_right (sorts && place_fits width a) (place_fits width b) fits),
        )

    process_is : (a : PSide) → IsTrue (process_side_fits (signature_of p) width a) → process_at s places a ≡ v.process a
    process_is (PSide.Global g) fits = ap process_of (global_is g Sort.Proc (sort_is (declared_sort p.globals g) Sort.Proc fits))
    process_is (PSide.Place q) fits =
        let below : q < width = ltb-true q width fits in
        own q below ∙ sym (values.places q below)

    integer_is : (a : ISide) → IsTrue (integer_side_fits (signature_of p) width a) → integer_at s places a ≡ side_value v.integer a
    integer_is Zero fits = refl
    integer_is (At t) fits =
        let sorted = is_sort (sort_of (signature_of p) t) Sort.Int in
        ap integer_of (term_is t Sort.Int (sort_is (sort_of (signature_of p) t) Sort.Int (and_left sorted (place_fits width t) fits)) (and_right sorted (place_fits width t) fits))

    -- a literal is true at the state exactly where it is true of the values
    pub literal_is : (lit : Lit) → IsTrue (literal_fits (signature_of p) width lit) → is_true s places lit ≡ is_true_of v lit
    literal_is (FinIn t mask) fits =
        let sorted = is_finite (sort_of (signature_of p) t) in
        let front = and_left (sorted && place_fits width t) _ fits in
        ap (has_bit mask) (constructor_is t (and_left sorted (place_fits width t) front) (and_right sorted (place_fits width t) front))
    literal_is (FinEq a b) fits =
        let e = constructors_are a b fits in
        ap (λ x. x == constructor_at s places b) e.0 ∙ ap (λ x. v.constructor a == x) e.1
    literal_is (FinNe a b) fits =
        let e = constructors_are a b fits in
        ap (λ x. not (x == constructor_at s places b)) e.0 ∙ ap (λ x. not (v.constructor a == x)) e.1
    literal_is (ProcEq a b) fits =
        let e = process_is a (and_left (process_side_fits (signature_of p) width a) (process_side_fits (signature_of p) width b) fits) in
        let f = process_is b (and_right (process_side_fits (signature_of p) width a) (process_side_fits (signature_of p) width b) fits) in
        ap (λ x. x == process_at s places b) e ∙ ap (λ x. v.process a == x) f
    literal_is (ProcNe a b) fits =
        let e = process_is a (and_left (process_side_fits (signature_of p) width a) (process_side_fits (signature_of p) width b) fits) in
        let f = process_is b (and_right (process_side_fits (signature_of p) width a) (process_side_fits (signature_of p) width b) fits) in
        ap (λ x. not (x == process_at s places b)) e ∙ ap (λ x. not (v.process a == x)) f
    literal_is (Diff a b bound) fits =
        let e = integer_is a (and_left (integer_side_fits (signature_of p) width a) (integer_side_fits (signature_of p) width b) fits) in
        let f = integer_is b (and_right (integer_side_fits (signature_of p) width a) (integer_side_fits (signature_of p) width b) fits) in
        ap (λ x. int_le (x -ℤ integer_at s places b) bound) e ∙ ap (λ x. int_le (side_value v.integer a -ℤ x) bound) f
