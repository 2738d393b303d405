-- What fits the protocol and the width meets the conditions of each of the three parts.
use Rattle.std.proofs.Common.{◌≡◌, ℕ, zero, suc, ◌+◌, ◌*◌, ◌<◌, ◌≤◌, ◌^◌, Bool, true, false, cond, List, [], ◌∷◌, ◌++◌, length, get_or, map, Option, Some, None, ℤ, pos, negsuc, ◌-ℤ◌, ◌<ℤ◌, inl, inr, refl, sym, ap, ◌∙◌, subst, arith}
use Rattle.std.specs.Prelude.{All, IsTrue, ◌&&◌, nat_lt, nat_le, unsigned_abs, slice_get}
use Rattle.std.specs.List.{list_all, flat_map, range_with_len}
use Rattle.std.specs.Option.{option_map_or}
use Rattle.std.proofs.lemmas.Bool.{ltb-true, leb-true, lt-ltb}
use Rattle.std.proofs.lemmas.Int.{ints}
use Rattle.std.proofs.lemmas.List.{length-map}
use Rattle.std.proofs.lemmas.List.Sums.{sum_by-cons}
use Rattle.std.proofs.lemmas.List.FromFn.{length-range_with_len}
use Rattle.std.proofs.lemmas.Option.{slice_get_within}
use Rattle.std.proofs.Common.{length-append}
use Rattle.cub_proto.specs.declared.literal.Sort.{Sort}
use Rattle.cub_proto.specs.declared.literal.Term.{Term}
use Rattle.cub_proto.specs.declared.literal.PSide.{PSide}
use Rattle.cub_proto.specs.declared.literal.ISide.{ISide}
use Rattle.cub_proto.specs.declared.literal.ISide.TheVariants.{Zero, At}
use Rattle.cub_proto.specs.declared.literal.Lit.{Lit}
use Rattle.cub_proto.specs.declared.literal.Lit.TheVariants.{FinIn, FinEq, FinNe, ProcEq, ProcNe, Diff}
use Rattle.cub_proto.specs.declared.protocol.Decl.{Decl}
use Rattle.cub_proto.specs.declared.protocol.SortDecl.{SortDecl}
use Rattle.cub_proto.specs.declared.protocol.Protocol.{Protocol}
use Rattle.cub_proto.specs.Signature.{declared_sort, sort_of, constructors_of, constructors_at, same_sort, is_sort, same_finite}
use Rattle.cub_proto.specs.StateOf.{signature_of}
use Rattle.cub_proto.specs.Fits.{is_finite, place_fits, term_fits, process_side_fits, integer_side_fits, literal_fits, is_bounded, array_fits, global_fits, integers_in, sort_is_there}
use Rattle.cub_base.proofs.Bools.{and_left, and_right, and_both}
use Rattle.cub_base.proofs.Elements.{all_from}
use Rattle.cub_proto.proofs.StateValues.{declared_is, sort_is}
use Rattle.cub_proto.proofs.Constructors.{declared_size}
use Rattle.cub_base.proofs.Members.{Has, has_Contains, has_left, has_right, has_map, has_flat_map, has_range}
use Rattle.fin_dom.specs.Table.{has_entry, terms_fit}
use Rattle.proc_eq.specs.Solution.{side_fits, sides_fit}
use Rattle.diff_close.specs.Literals.{IsAmong, MentionsOnly, MentionAtMost, HasSmallBound}
use Rattle.theory_laws.specs.Fitting.{AreFitting, greatest_size, term_numbers}
use Rattle.theory_laws.proofs.Building.{finite_is, same_finite_left, same_finite_right, few_globals}

module _ (p : Protocol) where
  -- ---- finite terms
  entry_of_sort : (width : ℕ) → width ≤ 11 → (t : Term) (sort : Sort) → sort_of (signature_of p) t ≡ Some sort → IsTrue (place_fits width t) → IsTrue (has_entry (term_numbers p) t)
  entry_of_sort width narrow (Term.Global g) sort is placed =
      let d = declared_is p.globals g sort is in
      let below : g < length p.globals = slice_get_within p.globals g d.0 d.1 in
      and_both (nat_lt g 64) (nat_lt g (term_numbers p)) (lt-ltb g 64 (omega (arith, few_globals p))) (lt-ltb g (term_numbers p) (omega (arith, few_globals p)))
  entry_of_sort width narrow (Term.Cell a q) sort is placed =
      let d = declared_is p.arrays a sort is in
      let below : a < length p.arrays = slice_get_within p.arrays a d.0 d.1 in
      let placed_in : q < width = ltb-true q width placed in
      and_both (nat_lt q 16) (nat_lt (64 + 16 * a + q) (term_numbers p)) (lt-ltb q 16 (omega arith)) (lt-ltb (64 + 16 * a + q) (term_numbers p) (omega arith))

  pub finite_entry : (width : ℕ) → width ≤ 11 → (t : Term) → IsTrue (is_finite (sort_of (signature_of p) t)) → IsTrue (place_fits width t) → IsTrue (has_entry (term_numbers p) t)
  finite_entry width narrow t finite placed = let k = finite_is (sort_of (signature_of p) t) finite in entry_of_sort width narrow t (Sort.Fin k.0) k.1 placed

  pub entries_of : (width : ℕ) → width ≤ 11 → (a b : Term) → IsTrue (literal_fits (signature_of p) width (FinEq a b)) → IsTrue (has_entry (term_numbers p) a) × IsTrue (has_entry (term_numbers p) b)
  entries_of width narrow a b fits =
      let sorts = same_finite (sort_of (signature_of p) a) (sort_of (signature_of p) b) in
      let left = and_left (sorts && place_fits width a) (place_fits width b) fits in
      let same = and_left sorts (place_fits width a) left in (
        finite_entry width narrow a (same_finite_left (sort_of (signature_of p) a) (sort_of (signature_of p) b) same) (and_right sorts (place_fits width a) left),
        finite_entry width narrow b (same_finite_right (sort_of (signature_of p) a) (sort_of (signature_of p) b) same) (and_right (sorts && place_fits width a) (place_fits width b) fits),
      )

  pub fin_fits : (width : ℕ) → width ≤ 11 → (lit : Lit) → IsTrue (literal_fits (signature_of p) width lit) → IsTrue (terms_fit (signature_of p) (term_numbers p) lit)
  fin_fits width narrow (FinIn t mask) fits =
      let sorted = is_finite (sort_of (signature_of p) t) in
      let small = nat_lt mask (2 ^ constructors_at (signature_of p) t) in
      let front = and_left (sorted && place_fits width t) small fits in
      and_both (has_entry (term_numbers p) t) small (finite_entry width narrow t (and_left sorted (place_fits width t) front) (and_right sorted (place_fits width t) front)) (and_right (sorted && place_fits width t) small fits)
  fin_fits width narrow (FinEq a b) fits = let e = entries_of width narrow a b fits in and_both (has_entry (term_numbers p) a) (has_entry (term_numbers p) b) e.0 e.1
  fin_fits width narrow (FinNe a b) fits = let e = entries_of width narrow a b fits in and_both (has_entry (term_numbers p) a) (has_entry (term_numbers p) b) e.0 e.1
  fin_fits width narrow (ProcEq a b) fits = refl
  fin_fits width narrow (ProcNe a b) fits = refl
  fin_fits width narrow (Diff a b bound) fits = refl

  -- ---- sides of equalities of processes
  pub side_fitting : (width : ℕ) (a : PSide) → IsTrue (process_side_fits (signature_of p) width a) → IsTrue (side_fits width a)
  side_fitting width (PSide.Global g) fits =
      let d = declared_is p.globals g Sort.Proc (sort_is (declared_sort p.globals g) Sort.Proc fits) in
      lt-ltb g 64 (omega (arith, few_globals p, slice_get_within p.globals g d.0 d.1))
  side_fitting width (PSide.Place q) fits = fits

  both_sides : (width : ℕ) (a b : PSide) → IsTrue (process_side_fits (signature_of p) width a && process_side_fits (signature_of p) width b) → IsTrue (side_fits width a && side_fits width b)
  both_sides width a b fits =
      and_both (side_fits width a) (side_fits width b)
      (side_fitting width a (and_left (process_side_fits (signature_of p) width a) (process_side_fits (signature_of p) width b) fits))
      (side_fitting width b (and_right (process_side_fits (signature_of p) width a) (process_side_fits (signature_of p) width b) fits))

  pub proc_fits : (width : ℕ) (lit : Lit) → IsTrue (literal_fits (signature_of p) width lit) → IsTrue (sides_fit width lit)
  proc_fits width (FinIn t mask) fits = refl
  proc_fits width (FinEq a b) fits = refl
  proc_fits width (FinNe a b) fits = refl
  proc_fits width (ProcEq a b) fits = both_sides width a b fits
  proc_fits width (ProcNe a b) fits = both_sides width a b fits
  proc_fits width (Diff a b bound) fits = refl

-- ---- integer terms: there are few
-- the numbers of the integers among declarations
abbrev ints_from : ℕ → List Decl → List ℕ
ints_from k [] = []
ints_from k (d ∷ ds) = cond (same_sort d.sort Sort.Int) (k ∷ ints_from (suc k) ds) (ints_from (suc k) ds)

ints_length : (k : ℕ) (ds : List Decl) → length (ints_from k ds) ≡ integers_in ds
ints_length k [] = refl
ints_length k (d ∷ ds) =
    one (same_sort d.sort Sort.Int) ∙ ap (λ n. cond (same_sort d.sort Sort.Int) 1 0 + n) (ints_length (suc k) ds) ∙ sym (sum_by-cons (λ e. cond (same_sort e.sort Sort.Int) 1 0) d ds)
  where
    one : (b : Bool) → length (cond b (k ∷ ints_from (suc k) ds) (ints_from (suc k) ds)) ≡ cond b 1 0 + length (ints_from (suc k) ds)
    one true = omega arith
    one false = omega arith

ints_has : (k i : ℕ) (ds : List Decl) → declared_sort ds i ≡ Some Sort.Int → Has (ints_from k ds) (k + i)
ints_has k i [] is = cc
ints_has k zero (d ∷ ds) is =
    let same : d.sort ≡ Sort.Int = cc in
    let on : same_sort d.sort Sort.Int ≡ true = ap (λ x. same_sort x Sort.Int) same in
    let start : k ≡ k + 0 = omega arith in
    subst (λ b. Has (cond b (k ∷ ints_from (suc k) ds) (ints_from (suc k) ds)) (k + 0)) (sym on) (inl start)
ints_has k (suc i) (d ∷ ds) is =
    let later : Has (ints_from (suc k) ds) (suc k + i) = ints_has (suc k) i ds is in
    let same : suc k + i ≡ k + suc i = omega arith in
    let here : Has (ints_from (suc k) ds) (k + suc i) = subst (λ x. Has (ints_from (suc k) ds) x) same later in
    elim (same_sort d.sort Sort.Int) as (λ b. Has (cond b (k ∷ ints_from (suc k) ds) (ints_from (suc k) ds)) (k + suc i)) [
      | true ↦ inr here
      | false ↦ here
    ]

-- the integer terms at places below the width
abbrev cells_at : ℕ → ℕ → List Term
cells_at width a = map (λ q. Term.Cell a q) (range_with_len 0 width)

abbrev integer_terms : Protocol → ℕ → List Term
integer_terms p width = map (λ g. Term.Global g) (ints_from 0 p.globals) ++ flat_map (cells_at width) (ints_from 0 p.arrays)

cells_length : (width : ℕ) (nums : List ℕ) → length (flat_map (cells_at width) nums) ≡ width * length nums
cells_length width [] = omega arith
cells_length width (a ∷ nums) =
    let rest = cells_length width nums in
    let own : length (map (λ q. Term.Cell a q) (range_with_len 0 width)) ≡ width = length-map (range_with_len 0 width) (λ q. Term.Cell a q) ∙ length-range_with_len 0 width in
    length-append (map (λ q. Term.Cell a q) (range_with_len 0 width)) (flat_map (cells_at width) nums) ∙ (grind arith)

module _ (p : Protocol) where
  few_int_globals : integers_in p.globals ≤ 16
  few_int_globals = leb-true (integers_in p.globals) 16 (and_right _ (nat_le (integers_in p.globals) 16)
      (and_left _ _ (and_left _ _ (and_left _ _ (and_left _ _ p.few)))))

  few_int_arrays : integers_in p.arrays ≤ 8
  few_int_arrays = leb-true (integers_in p.arrays) 8 (and_right _ (nat_le (integers_in p.arrays) 8) (and_left _ _ (and_left _ _ p.few)))

  few_terms : (width : ℕ) → width ≤ 11 → length (integer_terms p width) ≤ 104
  few_terms width narrow =
      let first = length-map (ints_from 0 p.globals) (λ g. Term.Global g) in
      let second = cells_length width (ints_from 0 p.arrays) in
      let both = length-append (map (λ g. Term.Global g) (ints_from 0 p.globals)) (flat_map (cells_at width) (ints_from 0 p.arrays)) in
      let globals = ints_length 0 p.globals in
      let arrays = ints_length 0 p.arrays in
      bounded width (length (ints_from 0 p.arrays)) (length (ints_from 0 p.globals)) (length (integer_terms p width)) narrow (omega (arith, few_int_arrays)) (omega (arith, few_int_globals)) (omega arith)
    where
      bounded : (w a g n : ℕ) → w ≤ 11 → a ≤ 8 → g ≤ 16 → n ≡ g + w * a → n ≤ 104
      bounded w a g n hw ha hg is = omega (arith, product w a hw ha)
        where
          product : (x y : ℕ) → x ≤ 11 → y ≤ 8 → x * y ≤ 88
          product x y hx hy = grind arith

  term_among : (width : ℕ) (t : Term) → IsTrue (term_fits (signature_of p) width Sort.Int t) → Has (integer_terms p width) t
  term_among width (Term.Global g) fits =
      let is = sort_is (declared_sort p.globals g) Sort.Int (and_left (is_sort (declared_sort p.globals g) Sort.Int) (place_fits width (Term.Global g)) fits) in
      let at : 0 + g ≡ g = omega arith in
      has_left (map (λ x. Term.Global x) (ints_from 0 p.globals)) (flat_map (cells_at width) (ints_from 0 p.arrays)) (Term.Global g)
      (has_map (λ x. Term.Global x) (ints_from 0 p.globals) g (subst (λ x. Has (ints_from 0 p.globals) x) at (ints_has 0 g p.globals is)))
  term_among width (Term.Cell a q) fits =
      let sorted = is_sort (declared_sort p.arrays a) Sort.Int in
      let is = sort_is (declared_sort p.arrays a) Sort.Int (and_left sorted (nat_lt q width) fits) in
      let below : q < width = ltb-true q width (and_right sorted (nat_lt q width) fits) in
      let at : 0 + a ≡ a = omega arith in
      let place : 0 + q ≡ q = omega arith in
      has_right (map (λ x. Term.Global x) (ints_from 0 p.globals)) (flat_map (cells_at width) (ints_from 0 p.arrays)) (Term.Cell a q)
      (has_flat_map (cells_at width) (ints_from 0 p.arrays) a (Term.Cell a q) (subst (λ x. Has (ints_from 0 p.arrays) x) at (ints_has 0 a p.arrays is))
      (has_map (λ x. Term.Cell a x) (range_with_len 0 width) q (subst (λ x. Has (range_with_len 0 width) x) place (has_range 0 width q below))))

  side_among : (width : ℕ) (a : ISide) → IsTrue (integer_side_fits (signature_of p) width a) → IsAmong (integer_terms p width) a
  side_among width Zero fits = tt
  side_among width (At t) fits = has_Contains (integer_terms p width) t (term_among width t fits)

  mentions_only : (width : ℕ) (lit : Lit) → IsTrue (literal_fits (signature_of p) width lit) → MentionsOnly (integer_terms p width) lit
  mentions_only width (FinIn t mask) fits = tt
  mentions_only width (FinEq a b) fits = tt
  mentions_only width (FinNe a b) fits = tt
  mentions_only width (ProcEq a b) fits = tt
  mentions_only width (ProcNe a b) fits = tt
  mentions_only width (Diff a b bound) fits = (
    side_among width a (and_left (integer_side_fits (signature_of p) width a) (integer_side_fits (signature_of p) width b) fits),
    side_among width b (and_right (integer_side_fits (signature_of p) width a) (integer_side_fits (signature_of p) width b) fits),
  )

  pub diff_terms : (width : ℕ) (lits : List Lit) → width ≤ 11 → IsTrue (list_all (literal_fits (signature_of p) width) lits) → MentionAtMost 104 lits
  diff_terms width lits narrow fit =
      (integer_terms p width, few_terms width narrow, λ k d below. mentions_only width (get_or lits k d) (all_from (literal_fits (signature_of p) width) lits fit k d below))

  -- a finite sort has a constructor
  item_has : (Q : Decl → Type 0) (ds : List Decl) (i : ℕ) (e : Decl) → slice_get ds i ≡ Some e → All Q ds → Q e
  item_has Q [] i e here all = cc
  item_has Q (x ∷ xs) zero e here all = let same : x ≡ e = cc in subst Q same (all 0 e (omega arith))
  item_has Q (x ∷ xs) (suc i) e here all = item_has Q xs i e here (λ n y below. all (suc n) y (omega arith))

  sort_there : (k : ℕ) (t : Term) → sort_of (signature_of p) t ≡ Some (Sort.Fin k) → k < length p.sorts
  sort_there k (Term.Global g) is =
      let d = declared_is p.globals g (Sort.Fin k) is in
      let fits : IsTrue (global_fits p.sorts d.0) = item_has (λ e. IsTrue (global_fits p.sorts e)) p.globals g d.0 d.1 p.globals_fit in
      ltb-true k (length p.sorts) (subst (λ x. IsTrue (sort_is_there p.sorts x)) d.2 (and_right _ (sort_is_there p.sorts d.0.sort) fits))
  sort_there k (Term.Cell a q) is =
      let d = declared_is p.arrays a (Sort.Fin k) is in
      let fits : IsTrue (array_fits p.sorts d.0) = item_has (λ e. IsTrue (array_fits p.sorts e)) p.arrays a d.0 d.1 p.arrays_fit in
      ltb-true k (length p.sorts) (subst (λ x. IsTrue (sort_is_there p.sorts x)) d.2 (and_right _ (sort_is_there p.sorts d.0.sort) (and_left _ _ fits)))

  past_all : (xs : List SortDecl) (i : ℕ) → slice_get xs i ≡ None → i < length xs → ⊥
  past_all [] i e h = omega arith
  past_all (x ∷ xs) zero e h = cc
  past_all (x ∷ xs) (suc i) e h = past_all xs i e (omega arith)

  sort_size : (k : ℕ) (o : Option SortDecl) → slice_get p.sorts k ≡ o → k < length p.sorts → 0 < option_map_or (λ d. length d.cons) o 0
  sort_size k None is below = absurd (past_all p.sorts k is below)
  sort_size k (Some d) is below = (declared_size p k d is).some

  pub some_constructor : (t : Term) → IsTrue (is_finite (sort_of (signature_of p) t)) → 0 < constructors_at (signature_of p) t
  some_constructor t finite =
      let k = finite_is (sort_of (signature_of p) t) finite in
      subst (λ o. 0 < option_map_or (constructors_of (signature_of p)) o 0) (sym k.1) (sort_size k.0 (slice_get p.sorts k.0) refl (sort_there k.0 t k.1))

-- ---- bounds
small_size : (z : ℤ) → nat_le (unsigned_abs z) 281474976710655 ≡ true → ((pos 0 -ℤ z) <ℤ pos 281474976710656) × (z <ℤ pos 281474976710656)
small_size (pos n) h = let below : n ≤ 281474976710655 = leb-true n 281474976710655 h in (omega (arith, ints), omega (arith, ints))
small_size (negsuc n) h = let below : suc n ≤ 281474976710655 = leb-true (suc n) 281474976710655 h in (omega (arith, ints), omega (arith, ints))

pub small_bound : (lit : Lit) → IsTrue (is_bounded greatest_size lit) → HasSmallBound lit
small_bound (FinIn t mask) h = tt
small_bound (FinEq a b) h = tt
small_bound (FinNe a b) h = tt
small_bound (ProcEq a b) h = tt
small_bound (ProcNe a b) h = tt
small_bound (Diff a b bound) h = small_size bound h

-- ---- the conditions of the three closures
module _ (p : Protocol) (width : ℕ) (lits : List Lit) (fitting : AreFitting p width lits) where
  each_fits : All (λ lit. IsTrue (literal_fits (signature_of p) width lit)) lits
  each_fits = all_from (literal_fits (signature_of p) width) lits fitting.fit

  pub all_fin : All (λ lit. IsTrue (terms_fit (signature_of p) (term_numbers p) lit)) lits
  all_fin = λ k d below. fin_fits p width fitting.narrow (get_or lits k d) (each_fits k d below)

  pub all_proc : All (λ lit. IsTrue (sides_fit width lit)) lits
  all_proc = λ k d below. proc_fits p width (get_or lits k d) (each_fits k d below)

  pub all_diff : MentionAtMost 104 lits
  all_diff = diff_terms p width lits fitting.narrow fitting.fit

  pub all_small : All HasSmallBound lits
  all_small = λ k d below. small_bound (get_or lits k d) (all_from (is_bounded greatest_size) lits fitting.bounded k d below)
