-- The start literals at the places say what a start state asks, and a state that is built of them is a start state.
use Rattle.std.proofs.Common.{◌≡◌, ℕ, zero, suc, ◌+◌, ◌<◌, ◌≤◌, Bool, true, false, not, max, List, [], ◌∷◌, ◌++◌, length, Some, inl, inr, refl, sym, ap, ◌∙◌, subst, arith, ◌-ℤ◌}
use Rattle.std.specs.Prelude.{All, IsTrue, ◌&&◌, ◌||◌, ◌==◌, nat_lt, nat_le, int_le, slice_index, unsigned_abs}
use Rattle.std.specs.List.{list_all, flat_map, range_with_len}
use Rattle.std.proofs.lemmas.Bool.{ltb-true, lt-ltb, leb-true, le-leb, cases_lt, cond-true, cond-false, eq-eqb, le-ltb}
use Rattle.std.proofs.lemmas.List.Folds.{list_all-append}
use Rattle.cub_proto.specs.declared.literal.Sort.{Sort}
use Rattle.cub_proto.specs.declared.literal.Term.{Term}
use Rattle.cub_proto.specs.declared.literal.PSide.{PSide}
use Rattle.cub_proto.specs.declared.literal.ISide.{ISide}
use Rattle.cub_proto.specs.declared.literal.ISide.TheVariants.{Zero, At}
use Rattle.cub_proto.specs.declared.literal.Lit.{Lit}
use Rattle.cub_proto.specs.declared.literal.Lit.TheVariants.{FinIn, FinEq, FinNe, ProcEq, ProcNe, Diff}
use Rattle.cub_proto.specs.declared.protocol.Protocol.{Protocol}
use Rattle.cub_proto.specs.Configuration.{Configuration, process_count, IsAlive}
use Rattle.cub_proto.specs.Signature.{Signature, sort_of, same_finite, is_sort}
use Rattle.cub_proto.specs.StateOf.{signature_of}
use Rattle.cub_proto.specs.Truth.{is_true, all_true, any_true, has_bit, term_value, constructor_at, constructor_of, process_at, integer_at, integer_of}
use Rattle.cub_proto.specs.Fits.{is_finite, place_fits, literal_fits, is_bounded, greatest_bound, process_side_fits, integer_side_fits, compares_no_place, sides_alike, conjunction_fits, start_fits}
use Rattle.cub_proto.specs.Legal.{IsStart}
use Rattle.cub_proto.specs.Meets.{Satisfies, Meets}
use Rattle.cub_base.proofs.Bools.{and_left, and_right, and_both}
use Rattle.cub_proto.proofs.StateValues.{sort_is, alive_within}
use Rattle.cub_cube.specs.Rename.{renamed, renamed_all, is_within}
use Rattle.cub_cube.proofs.Renames.{renamed_all_true}
use Rattle.cub_cube.proofs.RenamedFits.{renamed_all_fits, all_fits_within}
use Rattle.cub_cube.proofs.Agreeing.{agree_all_true}
use Rattle.theory_laws.specs.Fitting.{AreFitting, greatest_size}
use Rattle.theory_laws.specs.Built.{Values, value_of, home, built, own_places}
use Rattle.theory_laws.specs.Solved.{AreValues, Solve, Fulfils, PartsHaveSolutions}
use Rattle.theory_laws.specs.Chosen.{needed, IsChosenState}
use Rattle.theory_laws.proofs.Choosing.{chosen_are, chosen_solve}
use Rattle.cub_cube.specs.Starts.{MeetsStart}
use Rattle.theory_laws.specs.Start.{has_start, at_each_place, start_of, start_at, start_width, with_start_literals, IsConsistentWithStart}
use Rattle.theory_laws.proofs.Building.{finite_is, same_finite_left, same_finite_right, count_is, cell_is}
use Rattle.theory_laws.proofs.Stating.{made_state, own_at}
use Rattle.theory_laws.proofs.Meeting.{consistent_parts, satisfies_fewer}
use Rattle.theory_laws.proofs.Combined.{joined, joined_are, joined_solve}
use Rattle.theory_laws.proofs.Extending.{all_both}

-- ---- at each place
-- a test holds of the literals at each place where it does at every one
each_place : (test : Lit → Bool) (conj : List Lit) (from n : ℕ) → ((q : ℕ) → q < from + n → list_all test (renamed_all (q ∷ []) conj) ≡ true) → list_all test (flat_map (λ q. renamed_all (q ∷ []) conj) (range_with_len from n)) ≡ true
each_place test conj from zero each = refl
each_place test conj from (suc n) each =
    list_all-append test (renamed_all (from ∷ []) conj) (flat_map (λ q. renamed_all (q ∷ []) conj) (range_with_len (from + 1) n))
    ∙ and_both (list_all test (renamed_all (from ∷ []) conj)) (list_all test (flat_map (λ q. renamed_all (q ∷ []) conj) (range_with_len (from + 1) n)))
    (each from (omega arith)) (each_place test conj (from + 1) n (λ q below. each q (omega arith)))

-- and the other way
place_each : (test : Lit → Bool) (conj : List Lit) (from n : ℕ) → list_all test (flat_map (λ q. renamed_all (q ∷ []) conj) (range_with_len from n)) ≡ true → (i : ℕ) → i < n → list_all test (renamed_all ((from + i) ∷ []) conj) ≡ true
place_each test conj from zero h i below = absurd (omega arith)
place_each test conj from (suc n) h i below =
    let both = sym (list_all-append test (renamed_all (from ∷ []) conj) (flat_map (λ q. renamed_all (q ∷ []) conj) (range_with_len (from + 1) n))) ∙ h in
    let first = and_left (list_all test (renamed_all (from ∷ []) conj)) (list_all test (flat_map (λ q. renamed_all (q ∷ []) conj) (range_with_len (from + 1) n))) both in
    let rest = and_right (list_all test (renamed_all (from ∷ []) conj)) (list_all test (flat_map (λ q. renamed_all (q ∷ []) conj) (range_with_len (from + 1) n))) both in
    at i below first (place_each test conj (from + 1) n rest)
  where
    at : (k : ℕ) → k < suc n → list_all test (renamed_all (from ∷ []) conj) ≡ true → ((j : ℕ) → j < n → list_all test (renamed_all ((from + 1 + j) ∷ []) conj) ≡ true) → list_all test (renamed_all ((from + k) ∷ []) conj) ≡ true
    at zero k_in here later = let same : from ≡ from + 0 = omega arith in subst (λ x. list_all test (renamed_all (x ∷ []) conj) ≡ true) same here
    at (suc k) k_in here later = let same : from + 1 + k ≡ from + suc k = omega arith in subst (λ x. list_all test (renamed_all (x ∷ []) conj) ≡ true) same (later k (omega arith))

-- ---- the start conjunction of a protocol fits one place
within_one : (q width : ℕ) → q < width → All (λ p. p < width) (q ∷ [])
within_one q width below zero d inside = below
within_one q width below (suc k) d inside = absurd (omega arith)

renamed_bound : (limit : ℕ) (r : List ℕ) (l : Lit) → is_bounded limit (renamed r l) ≡ is_bounded limit l
renamed_bound limit r (FinIn t mask) = refl
renamed_bound limit r (FinEq a b) = refl
renamed_bound limit r (FinNe a b) = refl
renamed_bound limit r (ProcEq a b) = refl
renamed_bound limit r (ProcNe a b) = refl
renamed_bound limit r (Diff a b bound) = refl

renamed_bounds : (limit : ℕ) (r : List ℕ) (ls : List Lit) → list_all (is_bounded limit) ls ≡ true → list_all (is_bounded limit) (renamed_all r ls) ≡ true
renamed_bounds limit r [] h = refl
renamed_bounds limit r (l ∷ ls) h =
    and_both (is_bounded limit (renamed r l)) (list_all (is_bounded limit) (renamed_all r ls))
    (renamed_bound limit r l ∙ and_left (is_bounded limit l) (list_all (is_bounded limit) ls) h) (renamed_bounds limit r ls (and_right (is_bounded limit l) (list_all (is_bounded limit) ls) h))

wider_bound : (l : Lit) → is_bounded greatest_bound l ≡ true → is_bounded greatest_size l ≡ true
wider_bound (FinIn t mask) h = refl
wider_bound (FinEq a b) h = refl
wider_bound (FinNe a b) h = refl
wider_bound (ProcEq a b) h = refl
wider_bound (ProcNe a b) h = refl
wider_bound (Diff a b bound) h = le-leb (unsigned_abs bound) greatest_size (omega (arith, leb-true (unsigned_abs bound) greatest_bound h))

wider_bounds : (ls : List Lit) → list_all (is_bounded greatest_bound) ls ≡ true → list_all (is_bounded greatest_size) ls ≡ true
wider_bounds [] h = refl
wider_bounds (l ∷ ls) h =
    and_both (is_bounded greatest_size l) (list_all (is_bounded greatest_size) ls) (wider_bound l (and_left (is_bounded greatest_bound l) (list_all (is_bounded greatest_bound) ls) h))
    (wider_bounds ls (and_right (is_bounded greatest_bound l) (list_all (is_bounded greatest_bound) ls) h))

-- what the type of protocols keeps of the start conjunction
pub record IsStartConjunction (sig : Signature) (conj : List Lit) : Type 0 where
  pub fit : IsTrue (list_all (literal_fits sig 1) conj)
  pub bounded : IsTrue (list_all (is_bounded greatest_bound) conj)
  pub apart : IsTrue (list_all compares_no_place conj)
  pub few : length conj ≤ 64

pub first_conjunction : (sig : Signature) (conj : List Lit) (more : List (List Lit)) → IsTrue (start_fits sig (conj ∷ more)) → (more ≡ []) × IsStartConjunction sig conj
first_conjunction sig conj more h =
    let one = nat_le (length (conj ∷ more)) 1 in
    let fits = list_all (conjunction_fits sig 1) (conj ∷ more) in
    let compares = list_all (list_all compares_no_place) (conj ∷ more) in
    let front = and_left (one && fits) compares h in
    let own = and_left (conjunction_fits sig 1 conj) (list_all (conjunction_fits sig 1) more) (and_right one fits front) in
    let count = nat_le (length conj) 64 in
    let each = list_all (literal_fits sig 1) conj in
    let bounds = list_all (is_bounded greatest_bound) conj in
    let few = and_left (count && each) bounds own in (
      none more (leb-true (length (conj ∷ more)) 1 (and_left one fits front)),
      record {
        fit = and_right count each few;
        bounded = and_right (count && each) bounds own;
        apart = and_left (list_all compares_no_place conj) (list_all (list_all compares_no_place) more) (and_right (one && fits) compares h);
        few = leb-true (length conj) 64 (and_left count each few);
      },
    )
  where
    none : (xs : List (List Lit)) → length (conj ∷ xs) ≤ 1 → xs ≡ []
    none [] k = refl
    none (x ∷ xs) k = absurd (omega arith)

module _ (sig : Signature) (conj : List Lit) (start : IsStartConjunction sig conj) where
  placed_fits : (width q : ℕ) → q < width → list_all (literal_fits sig width) (renamed_all (q ∷ []) conj) ≡ true
  placed_fits width q below = renamed_all_fits sig width (q ∷ []) (within_one q width below) conj start.fit

  pub each_fits : (width : ℕ) → IsTrue (list_all (literal_fits sig width) (at_each_place conj width))
  each_fits width = each_place (literal_fits sig width) conj 0 width (λ q below. placed_fits width q (omega arith))

  pub each_bounded : (width : ℕ) → IsTrue (list_all (is_bounded greatest_size) (at_each_place conj width))
  each_bounded width = each_place (is_bounded greatest_size) conj 0 width (λ q below. renamed_bounds greatest_size (q ∷ []) conj (wider_bounds conj start.bounded))

  conj_within : IsTrue (list_all (is_within 1) conj)
  conj_within = all_fits_within sig 1 conj start.fit

  -- at place q the conjunction is that of the process there
  place_true : (s : Configuration) (places : List ℕ) (q : ℕ) → all_true s places (renamed_all (q ∷ []) conj) ≡ all_true s (slice_index places q ∷ []) conj
  place_true s places q = renamed_all_true s (q ∷ []) places conj conj_within

  pub each_true : (s : Configuration) (places : List ℕ) (width : ℕ) → ((q : ℕ) → q < width → all_true s (slice_index places q ∷ []) conj ≡ true) → all_true s places (at_each_place conj width) ≡ true
  each_true s places width h = each_place (is_true s places) conj 0 width (λ q below. place_true s places q ∙ h q (omega arith))

  pub true_each : (s : Configuration) (places : List ℕ) (width : ℕ) → all_true s places (at_each_place conj width) ≡ true → (q : ℕ) → q < width → all_true s (slice_index places q ∷ []) conj ≡ true
  true_each s places width h q below =
      let at : 0 + q ≡ q = omega arith in
      sym (place_true s places q) ∙ subst (λ x. list_all (is_true s places) (renamed_all (x ∷ []) conj) ≡ true) at (place_each (is_true s places) conj 0 width h q below)

pub start_fitting : (p : Protocol) (width : ℕ) → width ≤ 11 → AreFitting p width (start_at p width)
start_fitting p width narrow = by p.start p.start_fits
  where
    by : (conjs : List (List Lit)) → IsTrue (start_fits (signature_of p) conjs) → AreFitting p width (start_of conjs width)
    by [] h = record { narrow = narrow; fit = refl; bounded = refl }
    by (conj ∷ more) h =
        let first = first_conjunction (signature_of p) conj more h in
        record { narrow = narrow; fit = each_fits (signature_of p) conj first.1 width; bounded = each_bounded (signature_of p) conj first.1 width }

-- ---- a built state, at processes with the same cells
module _ (p : Protocol) (width n : ℕ) (v : Values) (values : AreValues p width n v) (i j : ℕ) (i_in : i < n) (j_in : j < n) (same : home width i ≡ home width j) where
  abbrev s : Configuration
  s = built p width n v

  alike_term : (t : Term) (sort : Sort) → sort_of (signature_of p) t ≡ Some sort → IsTrue (place_fits 1 t) → term_value s (i ∷ []) t ≡ term_value s (j ∷ []) t
  alike_term (Term.Global g) sort is placed = refl
  alike_term (Term.Cell a zero) sort is placed =
      cell_is p width n v values a i sort is i_in ∙ ap (λ x. value_of v sort (Term.Cell a x)) same ∙ sym (cell_is p width n v values a j sort is j_in)
  alike_term (Term.Cell a (suc q)) sort is placed = absurd (omega (arith, ltb-true (suc q) 1 placed))

  alike_constructor : (t : Term) → IsTrue (is_finite (sort_of (signature_of p) t)) → IsTrue (place_fits 1 t) → constructor_at s (i ∷ []) t ≡ constructor_at s (j ∷ []) t
  alike_constructor t finite placed = let k = finite_is (sort_of (signature_of p) t) finite in ap constructor_of (alike_term t (Sort.Fin k.0) k.1 placed)

  alike_both : (a b : Term) → IsTrue (literal_fits (signature_of p) 1 (FinEq a b)) → (constructor_at s (i ∷ []) a ≡ constructor_at s (j ∷ []) a) × (constructor_at s (i ∷ []) b ≡ constructor_at s (j ∷ []) b)
  alike_both a b fits =
      let sorts = same_finite (sort_of (signature_of p) a) (sort_of (signature_of p) b) in
      let left = and_left (sorts && place_fits 1 a) (place_fits 1 b) fits in
      let equal = and_left sorts (place_fits 1 a) left in (
        alike_constructor a (same_finite_left (sort_of (signature_of p) a) (sort_of (signature_of p) b) equal) (and_right sorts (place_fits 1 a) left),
        alike_constructor b (same_finite_right (sort_of (signature_of p) a) (sort_of (signature_of p) b) equal) (and_right (sorts && place_fits 1 a) (place_fits 1 b) fits),
      )

  alike_integer : (a : ISide) → IsTrue (integer_side_fits (signature_of p) 1 a) → integer_at s (i ∷ []) a ≡ integer_at s (j ∷ []) a
  alike_integer Zero fits = refl
  alike_integer (At t) fits =
      let sorted = is_sort (sort_of (signature_of p) t) Sort.Int in
      ap integer_of (alike_term t Sort.Int (sort_is (sort_of (signature_of p) t) Sort.Int (and_left sorted (place_fits 1 t) fits)) (and_right sorted (place_fits 1 t) fits))

  -- an equality of processes speaks of globals alone, or of the place alone
  alike_equal : (a b : PSide) → IsTrue (process_side_fits (signature_of p) 1 a && process_side_fits (signature_of p) 1 b) → sides_alike a b ≡ true
      → (process_at s (i ∷ []) a == process_at s (i ∷ []) b) ≡ (process_at s (j ∷ []) a == process_at s (j ∷ []) b)
  alike_equal (PSide.Global g) (PSide.Global h) fits alike = refl
  alike_equal (PSide.Global g) (PSide.Place r) fits alike = cc
  alike_equal (PSide.Place q) (PSide.Global h) fits alike = cc
  alike_equal (PSide.Place zero) (PSide.Place zero) fits alike = eq-eqb i i refl ∙ sym (eq-eqb j j refl)
  alike_equal (PSide.Place zero) (PSide.Place (suc r)) fits alike = absurd (omega (arith, ltb-true (suc r) 1 (and_right (nat_lt 0 1) (nat_lt (suc r) 1) fits)))
  alike_equal (PSide.Place (suc q)) (PSide.Place r) fits alike = absurd (omega (arith, ltb-true (suc q) 1 (and_left (nat_lt (suc q) 1) (nat_lt r 1) fits)))

  alike_true : (l : Lit) → IsTrue (literal_fits (signature_of p) 1 l) → compares_no_place l ≡ true → is_true s (i ∷ []) l ≡ is_true s (j ∷ []) l
  alike_true (FinIn t mask) fits alike =
      let sorted = is_finite (sort_of (signature_of p) t) in
      let front = and_left (sorted && place_fits 1 t) _ fits in
      ap (has_bit mask) (alike_constructor t (and_left sorted (place_fits 1 t) front) (and_right sorted (place_fits 1 t) front))
  alike_true (FinEq a b) fits alike = let e = alike_both a b fits in ap (λ x. x == constructor_at s (i ∷ []) b) e.0 ∙ ap (λ x. constructor_at s (j ∷ []) a == x) e.1
  alike_true (FinNe a b) fits alike = let e = alike_both a b fits in ap (λ x. not (x == constructor_at s (i ∷ []) b)) e.0 ∙ ap (λ x. not (constructor_at s (j ∷ []) a == x)) e.1
  alike_true (ProcEq a b) fits alike = alike_equal a b fits alike
  alike_true (ProcNe a b) fits alike = ap not (alike_equal a b fits alike)
  alike_true (Diff a b bound) fits alike =
      let e = alike_integer a (and_left (integer_side_fits (signature_of p) 1 a) (integer_side_fits (signature_of p) 1 b) fits) in
      let f = alike_integer b (and_right (integer_side_fits (signature_of p) 1 a) (integer_side_fits (signature_of p) 1 b) fits) in
      ap (λ x. int_le (x -ℤ integer_at s (i ∷ []) b) bound) e ∙ ap (λ x. int_le (integer_at s (j ∷ []) a -ℤ x) bound) f

  pub alike_all : (ls : List Lit) → list_all (literal_fits (signature_of p) 1) ls ≡ true → list_all compares_no_place ls ≡ true → all_true s (j ∷ []) ls ≡ true → all_true s (i ∷ []) ls ≡ true
  alike_all [] fit alike h = refl
  alike_all (l ∷ ls) fit alike h =
      and_both (is_true s (i ∷ []) l) (all_true s (i ∷ []) ls)
      (alike_true l (and_left (literal_fits (signature_of p) 1 l) (list_all (literal_fits (signature_of p) 1) ls) fit) (and_left (compares_no_place l) (list_all compares_no_place ls) alike)
      ∙ and_left (is_true s (j ∷ []) l) (all_true s (j ∷ []) ls) h)
      (alike_all ls (and_right (literal_fits (signature_of p) 1 l) (list_all (literal_fits (signature_of p) 1) ls) fit) (and_right (compares_no_place l) (list_all compares_no_place ls) alike)
      (and_right (is_true s (j ∷ []) l) (all_true s (j ∷ []) ls) h))

-- the place whose cells a process has is one of the places
home_below : (width i : ℕ) → 0 < width → (home width i < width) × (home width (home width i) ≡ home width i)
home_below width i some = elim (cases_lt i width) [
  | inl less ↦
      let e : home width i ≡ i = cond-true _ _ _ (lt-ltb i width less) in
      (omega arith, ap (home width) e)
  | inr more ↦
      let e : home width i ≡ 0 = cond-false _ _ _ (le-ltb i width more) in
      let f : home width 0 ≡ 0 = cond-true _ _ _ (lt-ltb 0 width some) in
      (omega arith, ap (home width) e ∙ f ∙ sym e)
]

-- a state that is built of values that make the start literals at the places true is a start state
module _ (p : Protocol) (width n : ℕ) (lits : List Lit) (v : Values) (some : 0 < width) (fit : IsTrue (list_all (literal_fits (signature_of p) width) lits)) (narrow : width ≤ 11)
    (values : AreValues p width n v) (solve : Solve p width (lits ++ start_at p width) v) where
  joined_fit : IsTrue (list_all (literal_fits (signature_of p) width) (lits ++ start_at p width))
  joined_fit = all_both (literal_fits (signature_of p) width) lits (start_at p width) fit (start_fitting p width narrow).fit

  joined_state : Fulfils p width (lits ++ start_at p width) (built p width n v)
  joined_state = made_state p width n (lits ++ start_at p width) v joined_fit values solve

  conj_everywhere : (conj : List Lit) → IsStartConjunction (signature_of p) conj → all_true (built p width n v) (own_places width) (at_each_place conj width) ≡ true → (i : ℕ) → i < n → all_true (built p width n v) (i ∷ []) conj ≡ true
  conj_everywhere conj start h i i_in =
      let at = home_below width i some in
      let room : home width i < n = omega (arith, at.0, values.room) in
      let own : slice_index (own_places width) (home width i) ≡ home width i = own_at width (home width i) at.0 in
      let there : all_true (built p width n v) (home width i ∷ []) conj ≡ true =
      subst (λ x. all_true (built p width n v) (x ∷ []) conj ≡ true) own (true_each (signature_of p) conj start (built p width n v) (own_places width) width h (home width i) at.0) in
      alike_all p width n v values i (home width i) i_in room (sym at.1) conj start.fit start.apart there

  begins_at : (conjs : List (List Lit)) → IsTrue (start_fits (signature_of p) conjs) → has_start conjs ≡ true → all_true (built p width n v) (own_places width) (start_of conjs width) ≡ true
      → (i : ℕ) → i < n → any_true (built p width n v) (i ∷ []) conjs ≡ true
  begins_at [] h has all i i_in = cc
  begins_at (conj ∷ more) h has all i i_in =
      ap (λ b. b || any_true (built p width n v) (i ∷ []) more) (conj_everywhere conj (first_conjunction (signature_of p) conj more h).1 all i i_in)

  pub built_starts : has_start p.start ≡ true → IsStart p (built p width n v)
  built_starts has = record {
    state = joined_state.state;
    alive = joined_state.alive;
    begins = λ i below. begins_at p.start p.start_fits has (satisfies_fewer (built p width n v) (own_places width) width lits (start_at p width) joined_state.satisfies).1 i (omega (arith, below, count_is p width n v values));
  }

  pub built_satisfies : Satisfies (built p width n v) (own_places width) width lits
  built_satisfies = (satisfies_fewer (built p width n v) (own_places width) width lits (start_at p width) joined_state.satisfies).0

-- ---- literals without places
pub no_place_alike : (sig : Signature) (s : Configuration) (lits : List Lit) (places : List ℕ) → IsTrue (list_all (literal_fits sig 0) lits) → all_true s [] lits ≡ all_true s places lits
no_place_alike sig s lits places fit = agree_all_true s 0 [] places lits (all_fits_within sig 0 lits fit) (λ q below. absurd (omega arith))

-- a start state that meets a conjunction makes the start literals true at its places
pub start_places : (p : Protocol) (s : Configuration) (places : List ℕ) (width : ℕ) (lits : List Lit) → IsStart p s → Satisfies s places width lits → Satisfies s places width (lits ++ start_at p width) × (has_start p.start ≡ true)
start_places p s places width lits start met = (
  record {
    one_each = met.one_each;
    processes = met.processes;
    holds = all_both (is_true s places) lits (start_at p width) met.holds (at_places p.start p.start_fits start.begins);
  },
  has p.start start.begins,
)
  where
    has : (conjs : List (List Lit)) → ((i : ℕ) → i < process_count s → any_true s (i ∷ []) conjs ≡ true) → has_start conjs ≡ true
    has [] begins = begins 0 start.state.some_process
    has (conj ∷ more) begins = refl

    only : (b : Bool) → (b || false) ≡ true → b ≡ true
    only true h = refl
    only false h = h

    at_places : (conjs : List (List Lit)) → IsTrue (start_fits (signature_of p) conjs) → ((i : ℕ) → i < process_count s → any_true s (i ∷ []) conjs ≡ true) → all_true s places (start_of conjs width) ≡ true
    at_places [] h begins = refl
    at_places (conj ∷ more) h begins =
        let first = first_conjunction (signature_of p) conj more h in
        each_true (signature_of p) conj first.1 s places width
        (λ q below.
        let there : slice_index places q < process_count s = alive_within s (slice_index places q) (met.processes.alive q 0 (omega (arith, below, met.one_each))) in
        let here : (all_true s (slice_index places q ∷ []) conj || any_true s (slice_index places q ∷ []) more) ≡ true = begins (slice_index places q) there in
        only (all_true s (slice_index places q ∷ []) conj) (subst (λ xs. (all_true s (slice_index places q ∷ []) conj || any_true s (slice_index places q ∷ []) xs) ≡ true) first.0 here))

-- ---- one place at least
wider_place : (width w : ℕ) → width ≤ w → (t : Term) → IsTrue (place_fits width t) → IsTrue (place_fits w t)
wider_place width w more (Term.Global g) h = refl
wider_place width w more (Term.Cell a q) h = lt-ltb q w (omega (arith, ltb-true q width h))

wider_side : (sig : Signature) (width w : ℕ) → width ≤ w → (a : PSide) → IsTrue (process_side_fits sig width a) → IsTrue (process_side_fits sig w a)
wider_side sig width w more (PSide.Global g) h = h
wider_side sig width w more (PSide.Place q) h = lt-ltb q w (omega (arith, ltb-true q width h))

wider_integer : (sig : Signature) (width w : ℕ) → width ≤ w → (a : ISide) → IsTrue (integer_side_fits sig width a) → IsTrue (integer_side_fits sig w a)
wider_integer sig width w more Zero h = refl
wider_integer sig width w more (At t) h =
    let sorted = is_sort (sort_of sig t) Sort.Int in
    and_both sorted (place_fits w t) (and_left sorted (place_fits width t) h) (wider_place width w more t (and_right sorted (place_fits width t) h))

wider_terms : (sig : Signature) (width w : ℕ) → width ≤ w → (a b : Term) → IsTrue (literal_fits sig width (FinEq a b)) → IsTrue (literal_fits sig w (FinEq a b))
wider_terms sig width w more a b h =
    let sorts = same_finite (sort_of sig a) (sort_of sig b) in
    let left = and_left (sorts && place_fits width a) (place_fits width b) h in
    and_both (sorts && place_fits w a) (place_fits w b)
    (and_both sorts (place_fits w a) (and_left sorts (place_fits width a) left) (wider_place width w more a (and_right sorts (place_fits width a) left)))
    (wider_place width w more b (and_right (sorts && place_fits width a) (place_fits width b) h))

wider_sides : (sig : Signature) (width w : ℕ) → width ≤ w → (a b : PSide) → IsTrue (literal_fits sig width (ProcEq a b)) → IsTrue (literal_fits sig w (ProcEq a b))
wider_sides sig width w more a b h =
    and_both (process_side_fits sig w a) (process_side_fits sig w b) (wider_side sig width w more a (and_left (process_side_fits sig width a) (process_side_fits sig width b) h))
    (wider_side sig width w more b (and_right (process_side_fits sig width a) (process_side_fits sig width b) h))

wider_fits : (sig : Signature) (width w : ℕ) → width ≤ w → (l : Lit) → IsTrue (literal_fits sig width l) → IsTrue (literal_fits sig w l)
wider_fits sig width w more (FinIn t mask) h =
    let sorted = is_finite (sort_of sig t) in
    let front = and_left (sorted && place_fits width t) _ h in
    and_both (sorted && place_fits w t) _
    (and_both sorted (place_fits w t) (and_left sorted (place_fits width t) front) (wider_place width w more t (and_right sorted (place_fits width t) front))) (and_right (sorted && place_fits width t) _ h)
wider_fits sig width w more (FinEq a b) h = wider_terms sig width w more a b h
wider_fits sig width w more (FinNe a b) h = wider_terms sig width w more a b h
wider_fits sig width w more (ProcEq a b) h = wider_sides sig width w more a b h
wider_fits sig width w more (ProcNe a b) h = wider_sides sig width w more a b h
wider_fits sig width w more (Diff a b bound) h =
    and_both (integer_side_fits sig w a) (integer_side_fits sig w b) (wider_integer sig width w more a (and_left (integer_side_fits sig width a) (integer_side_fits sig width b) h))
    (wider_integer sig width w more b (and_right (integer_side_fits sig width a) (integer_side_fits sig width b) h))

pub wider_all : (sig : Signature) (width w : ℕ) → width ≤ w → (ls : List Lit) → IsTrue (list_all (literal_fits sig width) ls) → IsTrue (list_all (literal_fits sig w) ls)
wider_all sig width w more [] h = refl
wider_all sig width w more (l ∷ ls) h =
    and_both (literal_fits sig w l) (list_all (literal_fits sig w) ls) (wider_fits sig width w more l (and_left (literal_fits sig width l) (list_all (literal_fits sig width) ls) h))
    (wider_all sig width w more ls (and_right (literal_fits sig width l) (list_all (literal_fits sig width) ls) h))

-- what fits a width fits it together with the start literals
pub joined_fitting : (p : Protocol) (width : ℕ) (lits : List Lit) → AreFitting p width lits → AreFitting p (start_width width) (with_start_literals p width lits)
joined_fitting p width lits fitting =
    let narrow : start_width width ≤ 11 = omega (arith, fitting.narrow) in
    let start : AreFitting p (start_width width) (start_at p (start_width width)) = start_fitting p (start_width width) narrow in
    record {
      narrow = narrow;
      fit = all_both (literal_fits (signature_of p) (start_width width)) lits (start_at p (start_width width)) (wider_all (signature_of p) width (start_width width) (omega arith) lits fitting.fit) start.fit;
      bounded = all_both (is_bounded greatest_size) lits (start_at p (start_width width)) fitting.bounded start.bounded;
    }

-- a state that satisfies the literals at so many places meets the conjunction
pub meets_narrower : (p : Protocol) (s : Configuration) (places : List ℕ) (width : ℕ) (lits : List Lit) → IsTrue (list_all (literal_fits (signature_of p) width) lits) → Satisfies s places (start_width width) lits → Meets s width lits
meets_narrower p s places zero lits fit met = (
  [],
  record {
    one_each = refl;
    processes = record { alive = λ k d below. absurd (omega arith); distinct = λ i j d order below. absurd (omega arith) };
    holds = no_place_alike (signature_of p) s lits places fit ∙ met.holds;
  },
)
meets_narrower p s places (suc k) lits fit met =
    let same : max (suc k) 1 ≡ suc k = omega arith in
    (places, subst (λ w. Satisfies s places w lits) same met)

-- and a start state that meets it satisfies them
meets_wider : (p : Protocol) (s : Configuration) (width : ℕ) (lits : List Lit) → IsTrue (list_all (literal_fits (signature_of p) width) lits) → IsStart p s → Meets s width lits → Meets s (start_width width) lits
meets_wider p s zero lits fit start (places, met) = (
  0 ∷ [],
  record {
    one_each = refl;
    processes = record { alive = first; distinct = λ i j d order below. absurd (omega arith) };
    holds = sym (no_place_alike (signature_of p) s lits (0 ∷ []) fit) ∙ (no_place_alike (signature_of p) s lits places fit ∙ met.holds);
  },
)
  where
    first : All (IsAlive s) (0 ∷ [])
    first zero d below = start.alive 0 start.state.some_process
    first (suc k) d below = absurd (omega arith)
meets_wider p s (suc k) lits fit start (places, met) =
    let same : suc k ≡ max (suc k) 1 = omega arith in
    (places, subst (λ w. Satisfies s places w lits) same met)

pub starts_are_consistent : (p : Protocol) (width : ℕ) (lits : List Lit) → AreFitting p width lits → MeetsStart p width lits → IsConsistentWithStart p width lits
starts_are_consistent p width lits fitting (s, start, meets) =
    let wide : Meets s (start_width width) lits = meets_wider p s width lits fitting.fit start meets in
    let both = start_places p s wide.0 (start_width width) lits start wide.1 in
    record { some = both.1; consistent = (s, start.state, (wide.0, both.0)) }

pub consistent_starts : (p : Protocol) (width : ℕ) (lits : List Lit) → AreFitting p width lits → IsConsistentWithStart p width lits → MeetsStart p width lits
consistent_starts p width lits fitting with_start =
    let m : ℕ = start_width width in
    let some : 0 < m = omega arith in
    let whole = joined_fitting p width lits fitting in
    let parts : PartsHaveSolutions p m (with_start_literals p width lits) = consistent_parts p m (with_start_literals p width lits) whole.fit with_start.consistent in
    let v = joined (signature_of p) m parts.finite.0 parts.processes.0 parts.integers.0 in
    let are = joined_are p m (with_start_literals p width lits) parts.finite.0 parts.processes.0 parts.integers.0 parts.finite.1 parts.processes.1 parts.integers.1 in
    let solve = joined_solve p m (with_start_literals p width lits) parts.finite.0 parts.processes.0 parts.integers.0 parts.finite.1 parts.processes.1 parts.integers.1 in
    let fit : IsTrue (list_all (literal_fits (signature_of p) m) lits) = wider_all (signature_of p) width m (omega arith) lits fitting.fit in (
      built p m (needed p m v) v,
      built_starts p m (needed p m v) lits v some fit whole.narrow are solve with_start.some,
      meets_narrower p (built p m (needed p m v) v) (own_places m) width lits fitting.fit (built_satisfies p m (needed p m v) lits v some fit whole.narrow are solve),
    )

-- the chosen state of a conjunction with the start literals
pub chosen_starts : (p : Protocol) (width : ℕ) (lits : List Lit) (s : Configuration) → AreFitting p width lits → has_start p.start ≡ true → IsChosenState p (start_width width) (with_start_literals p width lits) s
    → IsStart p s × Meets s width lits × Satisfies s (own_places (start_width width)) (start_width width) lits
chosen_starts p width lits s fitting has chosen =
    let m : ℕ = start_width width in
    let v : Values = chosen.values in
    let some : 0 < m = omega arith in
    let whole = joined_fitting p width lits fitting in
    let fit : IsTrue (list_all (literal_fits (signature_of p) m) lits) = wider_all (signature_of p) width m (omega arith) lits fitting.fit in
    let are = chosen_are p m (with_start_literals p width lits) v chosen.constructors chosen.processes chosen.integers in
    let solve = chosen_solve p m (with_start_literals p width lits) v chosen.constructors chosen.processes chosen.integers in
    let starts : IsStart p (built p m (needed p m v) v) = built_starts p m (needed p m v) lits v some fit whole.narrow are solve has in
    let met : Satisfies (built p m (needed p m v) v) (own_places m) m lits = built_satisfies p m (needed p m v) lits v some fit whole.narrow are solve in (
      subst (λ x. IsStart p x) (sym chosen.state) starts,
      subst (λ x. Meets x width lits) (sym chosen.state) (meets_narrower p (built p m (needed p m v) v) (own_places m) width lits fitting.fit met),
      subst (λ x. Satisfies x (own_places m) m lits) (sym chosen.state) met,
    )
