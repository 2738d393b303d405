-- A replaced literal fits, and is true before exactly where the literal is true of the values that its terms take.
use Rattle.std.proofs.Common.{◌≡◌, ◌≢◌, ℕ, ◌<◌, ◌≤◌, ◌^◌, ℤ, pos, Bool, true, false, List, [], ◌∷◌, ◌++◌, length, Option, Some, None, refl, sym, ap, ◌∙◌, subst, arith}
use Rattle.std.specs.Prelude.{◌&&◌, ◌==◌, not, IsTrue, nat_lt, nat_le, int_le, ◌-ℤ◌, ◌+ℤ◌, unsigned_abs}
use Rattle.std.specs.List.{list_all, AllByRecursion}
use Rattle.std.specs.Option.{option_map_or}
use Rattle.std.proofs.lemmas.Option.{get_or_from_slice_get, slice_get_within}
use Rattle.std.proofs.lemmas.List.Elements.{recursion_from_All}
use Rattle.std.proofs.lemmas.List.FromFn.{length-range_with_len}
use Rattle.std.proofs.lemmas.Nat.Bits.{bit_at-pow_same, bit_at-pow_other}
use Rattle.std.proofs.lemmas.Bool.Decides.{nat_tests}
use Rattle.std.proofs.lemmas.Int.{ints}
use Rattle.std.proofs.Math.Pow.{pow-lt}
use Rattle.cub_base.specs.Name.{is_declarable}
use Rattle.cub_proto.specs.declared.literal.Sort.{Sort}
use Rattle.cub_proto.specs.declared.literal.Term.{Term}
use Rattle.cub_proto.specs.declared.literal.PSide.{PSide}
use Rattle.cub_proto.specs.declared.literal.ISide.{ISide}
use Rattle.cub_proto.specs.declared.literal.ISide.TheVariants.{Zero, At}
use Rattle.cub_proto.specs.declared.literal.Lit.{Lit}
use Rattle.cub_proto.specs.declared.literal.Lit.TheVariants.{FinIn, FinEq, FinNe, ProcEq, ProcNe, Diff}
use Rattle.cub_proto.specs.declared.literal.Value.{Value}
use Rattle.cub_proto.specs.declared.state.Val.{Val}
use Rattle.cub_proto.specs.declared.protocol.SortDecl.{SortDecl}
use Rattle.cub_proto.specs.declared.protocol.Decl.{Decl}
use Rattle.cub_proto.specs.declared.protocol.Protocol.{Protocol}
use Rattle.cub_proto.specs.Configuration.{Configuration}
use Rattle.cub_proto.specs.Signature.{Signature, sort_of, declared_sort, constructors_of, constructors_at, same_sort, is_sort, same_finite}
use Rattle.cub_proto.specs.StateOf.{IsStateOf, signature_of, first_state}
use Rattle.cub_proto.specs.Fits.{literal_fits, is_finite, place_fits, process_side_fits, integer_side_fits, greatest_constant, array_fits, sort_is_there}
use Rattle.cub_proto.specs.Truth.{is_true, has_bit, term_value, constructor_of, process_of, integer_of, constructor_at, process_at, integer_at}
use Rattle.cub_proto.specs.Effect.{meaning_of}
use Rattle.cub_proto.specs.Legal.{AreDistinctAlive}
use Rattle.cub_cube.specs.Rename.{Agree}
use Rattle.cub_cube.specs.Mentions.{terms_of, process_side_terms, integer_side_terms}
use Rattle.cub_cube.specs.Replace.{replaced, constant, FiniteSide, Known, Has, finite_side, side_in, sides_equal, process_value, replaced_process_side, base_of, added_of, replaced_base, replaced_added, can_replace, can_replace_all, TakesValues}
use Rattle.cub_base.proofs.Bools.{and_left, and_right, and_both, is_less, less_is, same_refl, same_is, same_comm}
use Rattle.cub_proto.proofs.StateValues.{declared_is, sort_is}
use Rattle.cub_proto.proofs.Opposite.{negated_is}
use Rattle.cub_cube.proofs.States.{processes_within, finite_is}
use Rattle.cub_cube.proofs.Placing.{identity}
use Rattle.cub_cube.proofs.Negations.{negated_fits}

-- ---- sorts
-- both sorts are the same finite one
pub finite_both : (x y : Option Sort) → IsTrue (same_finite x y) → (k : ℕ) × (x ≡ Some (Sort.Fin k)) × (y ≡ Some (Sort.Fin k))
finite_both (Some (Sort.Fin k)) y h = (k, refl, sort_is y (Sort.Fin k) h)
finite_both (Some Sort.Proc) y h = cc
finite_both (Some Sort.Int) y h = cc
finite_both None y h = cc

both_finite : (x y : Option Sort) (k : ℕ) → x ≡ Some (Sort.Fin k) → y ≡ Some (Sort.Fin k) → IsTrue (same_finite x y)
both_finite x y k e f =
    subst (λ o. IsTrue (same_finite o y)) (sym e) (subst (λ o. IsTrue (is_sort o (Sort.Fin k))) (sym f) (same_refl k))

-- ---- constants and single bits
constant_true : (s : Configuration) (places : List ℕ) (b : Bool) → is_true s places (constant b) ≡ b
constant_true s places true = refl
constant_true s places false = refl

test_same : (x y : ℕ) → x ≡ y → (x == y) ≡ true
test_same x y h = grind (arith, nat_tests)

test_apart : (x y : ℕ) → x ≢ y → (x == y) ≡ false
test_apart x y h = grind (arith, nat_tests)

pub one_bit : (c x : ℕ) → has_bit (2 ^ c) x ≡ (c == x)
one_bit c x = by (c == x) refl
  where
    by : (b : Bool) → (c == x) ≡ b → has_bit (2 ^ c) x ≡ (c == x)
    by true e = let same = same_is c x e in ap (λ n. has_bit (2 ^ c) n) (sym same) ∙ ap (λ n. n == 1) (bit_at-pow_same c) ∙ sym e
    by false e =
        let apart : x ≢ c = λ h. cc (test_same c x (sym h)) in ap (λ n. n == 1) (bit_at-pow_other c x apart) ∙ sym e

-- ---- finite sides
pub constructor_of_side : Configuration → List ℕ → FiniteSide → ℕ
constructor_of_side s places (Known c) = c
constructor_of_side s places (Has t) = constructor_at s places t

-- the side is a constructor of the sort, or a term of it
SideFits : Signature → ℕ → ℕ → FiniteSide → Type 0
SideFits sig width k (Known c) = c < constructors_of sig (Sort.Fin k)
SideFits sig width k (Has t) = (sort_of sig t ≡ Some (Sort.Fin k)) × IsTrue (place_fits width t)

side_fits : (sig : Signature) (width k : ℕ) (v : Value) → IsTrue (can_replace sig width (Sort.Fin k) v) → SideFits sig width k (finite_side v)
unfolding SideFits
side_fits sig width k (Value.Con c) h = less_is c (constructors_of sig (Sort.Fin k)) h
side_fits sig width k (Value.Read t) h =
    (sort_is (sort_of sig t) (Sort.Fin k) (and_left (is_sort (sort_of sig t) (Sort.Fin k)) (place_fits width t) h), and_right (is_sort (sort_of sig t) (Sort.Fin k)) (place_fits width t) h)
side_fits sig width k (Value.Proc side) h = cc
side_fits sig width k (Value.Sum base add) h = cc
side_fits sig width k Value.Any h = cc

side_is : (sig : Signature) (s : Configuration) (places : List ℕ) (width k : ℕ) (v : Value) (old : Val) → IsTrue (can_replace sig width (Sort.Fin k) v)
    → constructor_of_side s places (finite_side v) ≡ constructor_of (meaning_of s places v old)
unfolding constructor_of_side
side_is sig s places width k (Value.Con c) old h = refl
side_is sig s places width k (Value.Read t) old h = refl
side_is sig s places width k (Value.Proc side) old h = cc
side_is sig s places width k (Value.Sum base add) old h = cc
side_is sig s places width k Value.Any old h = cc

counts_of : (sig : Signature) (t : Term) (k : ℕ) → sort_of sig t ≡ Some (Sort.Fin k) → constructors_at sig t ≡ constructors_of sig (Sort.Fin k)
counts_of sig t k e = ap (λ o. option_map_or (constructors_of sig) o 0) e

mask_fits : (sig : Signature) (width k : ℕ) (t : Term) (mask : ℕ) → sort_of sig t ≡ Some (Sort.Fin k) → IsTrue (place_fits width t) → mask < 2 ^ constructors_of sig (Sort.Fin k) → IsTrue (literal_fits sig width (FinIn t mask))
mask_fits sig width k t mask e place below =
    and_both (is_finite (sort_of sig t) && place_fits width t) (nat_lt mask (2 ^ constructors_at sig t))
    (and_both (is_finite (sort_of sig t)) (place_fits width t) (subst (λ o. IsTrue (is_finite o)) (sym e) refl) place)
    (is_less mask (2 ^ constructors_at sig t) (subst (λ n. mask < 2 ^ n) (sym (counts_of sig t k e)) below))

sides_equal_fits : (sig : Signature) (width k : ℕ) (x y : FiniteSide) → SideFits sig width k x → SideFits sig width k y → IsTrue (literal_fits sig width (sides_equal x y))
unfolding SideFits
sides_equal_fits sig width k (Known c) (Known d) h l = refl
sides_equal_fits sig width k (Known c) (Has u) h l = mask_fits sig width k u (2 ^ c) l.0 l.1 (pow-lt h)
sides_equal_fits sig width k (Has t) (Known d) h l = mask_fits sig width k t (2 ^ d) h.0 h.1 (pow-lt l)
sides_equal_fits sig width k (Has t) (Has u) h l =
    and_both (same_finite (sort_of sig t) (sort_of sig u) && place_fits width t) (place_fits width u)
    (and_both (same_finite (sort_of sig t) (sort_of sig u)) (place_fits width t) (both_finite (sort_of sig t) (sort_of sig u) k h.0 l.0) h.1) l.1

sides_equal_true : (s : Configuration) (places : List ℕ) (x y : FiniteSide) → is_true s places (sides_equal x y) ≡ (constructor_of_side s places x == constructor_of_side s places y)
unfolding constructor_of_side
sides_equal_true s places (Known c) (Known d) = constant_true s places (c == d)
sides_equal_true s places (Known c) (Has u) = one_bit c (constructor_at s places u)
sides_equal_true s places (Has t) (Known d) = one_bit d (constructor_at s places t) ∙ same_comm d (constructor_at s places t)
sides_equal_true s places (Has t) (Has u) = refl

side_in_true : (s : Configuration) (places : List ℕ) (x : FiniteSide) (mask : ℕ) → is_true s places (side_in x mask) ≡ has_bit mask (constructor_of_side s places x)
unfolding constructor_of_side
side_in_true s places (Known c) mask = constant_true s places (has_bit mask c)
side_in_true s places (Has t) mask = refl

-- the added numbers move into the bound
moved : (x y m n v w bound : ℤ) → v ≡ x +ℤ m → w ≡ y +ℤ n → int_le (x -ℤ y) (bound -ℤ m +ℤ n) ≡ int_le (v -ℤ w) bound
moved x y m n v w bound e f = grind (arith, ints)

plus_zero : (x : ℤ) → x ≡ x +ℤ pos 0
plus_zero x = grind (arith, ints)

-- ---- what can replace the terms of a literal
pub split_all : {X : Type 0} (f : X → Bool) (xs ys : List X) → IsTrue (list_all f (xs ++ ys)) → IsTrue (list_all f xs) × IsTrue (list_all f ys)
split_all f [] ys h = (refl, h)
split_all f (x ∷ xs) ys h =
    let rest = split_all f xs ys (and_right (f x) (list_all f (xs ++ ys)) h) in
    (and_both (f x) (list_all f xs) (and_left (f x) (list_all f (xs ++ ys)) h) rest.0, rest.1)

split_each : {X : Type 0} (P : X → Type 0) (xs ys : List X) → AllByRecursion P (xs ++ ys) → AllByRecursion P xs × AllByRecursion P ys
split_each P [] ys h = (tt, h)
split_each P (x ∷ xs) ys h = let rest = split_each P xs ys h.1 in ((h.0, rest.0), rest.1)

pub replaces : (sig : Signature) (width : ℕ) (value : Term → Value) (t : Term) (sort : Sort) → sort_of sig t ≡ Some sort
    → IsTrue (option_map_or (λ x. can_replace sig width x (value t)) (sort_of sig t) false) → IsTrue (can_replace sig width sort (value t))
replaces sig width value t sort e h = subst (λ o. IsTrue (option_map_or (λ x. can_replace sig width x (value t)) o false)) e h

-- ---- arrays hold no processes
no_process : (sorts : List SortDecl) (d : Decl) → IsTrue (array_fits sorts d) → d.sort ≡ Sort.Proc → ⊥
no_process sorts d h e =
    let other = and_right (is_declarable d.name && sort_is_there sorts d.sort) (not (same_sort d.sort Sort.Proc)) h in
    let false_ : not (same_sort Sort.Proc Sort.Proc) ≡ true = subst (λ x. IsTrue (not (same_sort x Sort.Proc))) e other in cc

cell_no_process : (p : Protocol) (a q : ℕ) → sort_of (signature_of p) (Term.Cell a q) ≡ Some Sort.Proc → ⊥
cell_no_process p a q e =
    let d = declared_is p.arrays a Sort.Proc e in
    no_process p.sorts d.0 (subst (λ x. IsTrue (array_fits p.sorts x)) (get_or_from_slice_get p.arrays a d.0 d.0 d.1) (p.arrays_fit a d.0 (slice_get_within p.arrays a d.0 d.1))) d.2

-- ---- process sides
module _ (p : Protocol) (s : Configuration) (places : List ℕ) (value : Term → Value) where
  process_value_fits : (g : ℕ) (v : Value) → IsTrue (can_replace (signature_of p) (length places) Sort.Proc v) → IsTrue (process_side_fits (signature_of p) (length places) (process_value (PSide.Global g) v))
  process_value_fits g (Value.Con c) h = cc
  process_value_fits g (Value.Read (Term.Global k)) h = and_left (is_sort (declared_sort p.globals k) Sort.Proc) true h
  process_value_fits g (Value.Read (Term.Cell a q)) h =
      absurd (cell_no_process p a q (sort_is (sort_of (signature_of p) (Term.Cell a q)) Sort.Proc (and_left (is_sort (sort_of (signature_of p) (Term.Cell a q)) Sort.Proc) (place_fits (length places) (Term.Cell a q)) h)))
  process_value_fits g (Value.Proc side) h = h
  process_value_fits g (Value.Sum base add) h = cc
  process_value_fits g Value.Any h = cc

  process_value_is : (g : ℕ) (v : Value) (old : Val) → IsTrue (can_replace (signature_of p) (length places) Sort.Proc v) → process_at s places (process_value (PSide.Global g) v) ≡ process_of (meaning_of s places v old)
  process_value_is g (Value.Con c) old h = cc
  process_value_is g (Value.Read (Term.Global k)) old h = refl
  process_value_is g (Value.Read (Term.Cell a q)) old h =
      absurd (cell_no_process p a q (sort_is (sort_of (signature_of p) (Term.Cell a q)) Sort.Proc (and_left (is_sort (sort_of (signature_of p) (Term.Cell a q)) Sort.Proc) (place_fits (length places) (Term.Cell a q)) h)))
  process_value_is g (Value.Proc side) old h = refl
  process_value_is g (Value.Sum base add) old h = cc
  process_value_is g Value.Any old h = cc

  replaces_term : Term → Bool
  replaces_term t = option_map_or (λ sort. can_replace (signature_of p) (length places) sort (value t)) (sort_of (signature_of p) t) false

  replaced_process_fits : (width : ℕ) (a : PSide) → width ≤ length places → IsTrue (process_side_fits (signature_of p) width a) → IsTrue (list_all replaces_term (process_side_terms a))
      → IsTrue (process_side_fits (signature_of p) (length places) (replaced_process_side value a))
  unfolding replaces_term
  replaced_process_fits width (PSide.Global g) within fits can =
      process_value_fits g (value (Term.Global g))
      (replaces (signature_of p) (length places) value (Term.Global g) Sort.Proc (sort_is (declared_sort p.globals g) Sort.Proc fits)
      (and_left (option_map_or (λ sort. can_replace (signature_of p) (length places) sort (value (Term.Global g))) (declared_sort p.globals g) false) true can))
  replaced_process_fits width (PSide.Place q) within fits can = let below = less_is q width fits in is_less q (length places) (omega arith)

  module _ (after : Configuration) (others : List ℕ) where
    Takes : Term → Type 0
    Takes t = term_value after others t ≡ meaning_of s places (value t) (term_value s places t)

    replaced_process_is : (width : ℕ) (a : PSide) → IsTrue (process_side_fits (signature_of p) width a) → IsTrue (list_all replaces_term (process_side_terms a)) → Agree width others places → AllByRecursion Takes (process_side_terms a)
        → process_at s places (replaced_process_side value a) ≡ process_at after others a
    unfolding replaces_term Takes
    replaced_process_is width (PSide.Global g) fits can agree takes =
        process_value_is g (value (Term.Global g)) (term_value s places (Term.Global g))
        (replaces (signature_of p) (length places) value (Term.Global g) Sort.Proc (sort_is (declared_sort p.globals g) Sort.Proc fits)
        (and_left (option_map_or (λ sort. can_replace (signature_of p) (length places) sort (value (Term.Global g))) (declared_sort p.globals g) false) true can))
        ∙ ap process_of (sym takes.0)
    replaced_process_is width (PSide.Place q) fits can agree takes = sym (agree q (less_is q width fits))

    replaced_integer_is : (width : ℕ) (a : ISide) → IsTrue (integer_side_fits (signature_of p) width a) → IsTrue (list_all replaces_term (integer_side_terms a)) → AllByRecursion Takes (integer_side_terms a)
        → integer_at after others a ≡ integer_at s places (replaced_base value a) +ℤ replaced_added value a
    unfolding replaces_term Takes
    replaced_integer_is width Zero fits can takes = refl
    replaced_integer_is width (At t) fits can takes =
        ap integer_of takes.0
        ∙ by (value t) (replaces (signature_of p) (length places) value t Sort.Int (sort_is (sort_of (signature_of p) t) Sort.Int (and_left (is_sort (sort_of (signature_of p) t) Sort.Int) (place_fits width t) fits))
        (and_left (option_map_or (λ sort. can_replace (signature_of p) (length places) sort (value t)) (sort_of (signature_of p) t) false) true can))
      where
        by : (v : Value) → IsTrue (can_replace (signature_of p) (length places) Sort.Int v) → integer_of (meaning_of s places v (term_value s places t)) ≡ integer_at s places (base_of v) +ℤ added_of v
        by (Value.Con c) h = cc
        by (Value.Read u) h = plus_zero (integer_at s places (At u))
        by (Value.Proc side) h = cc
        by (Value.Sum base add) h = refl
        by Value.Any h = cc

  replaced_integer_fits : (width : ℕ) (a : ISide) → IsTrue (integer_side_fits (signature_of p) width a) → IsTrue (list_all replaces_term (integer_side_terms a)) → IsTrue (integer_side_fits (signature_of p) (length places) (replaced_base value a))
  unfolding replaces_term
  replaced_integer_fits width Zero fits can = refl
  replaced_integer_fits width (At t) fits can =
      by (value t) (replaces (signature_of p) (length places) value t Sort.Int (sort_is (sort_of (signature_of p) t) Sort.Int (and_left (is_sort (sort_of (signature_of p) t) Sort.Int) (place_fits width t) fits))
      (and_left (option_map_or (λ sort. can_replace (signature_of p) (length places) sort (value t)) (sort_of (signature_of p) t) false) true can))
    where
      by : (v : Value) → IsTrue (can_replace (signature_of p) (length places) Sort.Int v) → IsTrue (integer_side_fits (signature_of p) (length places) (base_of v))
      by (Value.Con c) h = cc
      by (Value.Read u) h = h
      by (Value.Proc side) h = cc
      by (Value.Sum base add) h = and_left (integer_side_fits (signature_of p) (length places) base) (nat_le (unsigned_abs add) greatest_constant) h
      by Value.Any h = cc

  -- a finite term of the literal: what replaces it has its constructor, and fits
  finite_fits : (t : Term) (k : ℕ) → sort_of (signature_of p) t ≡ Some (Sort.Fin k) → IsTrue (replaces_term t) → SideFits (signature_of p) (length places) k (finite_side (value t))
  unfolding replaces_term
  finite_fits t k e can = side_fits (signature_of p) (length places) k (value t) (replaces (signature_of p) (length places) value t (Sort.Fin k) e can)

  finite_both_fit : (width : ℕ) (a b : Term) → IsTrue (literal_fits (signature_of p) width (FinEq a b)) → IsTrue (list_all replaces_term (a ∷ b ∷ []))
      → IsTrue (literal_fits (signature_of p) (length places) (sides_equal (finite_side (value a)) (finite_side (value b))))
  finite_both_fit width a b fits can =
      let k = finite_both (sort_of (signature_of p) a) (sort_of (signature_of p) b)
      (and_left (same_finite (sort_of (signature_of p) a) (sort_of (signature_of p) b)) (place_fits width a)
      (and_left (same_finite (sort_of (signature_of p) a) (sort_of (signature_of p) b) && place_fits width a) (place_fits width b) fits)) in
      sides_equal_fits (signature_of p) (length places) k.0 (finite_side (value a)) (finite_side (value b))
      (finite_fits a k.0 k.1 (and_left (replaces_term a) (replaces_term b && true) can))
      (finite_fits b k.0 k.2 (and_left (replaces_term b) true (and_right (replaces_term a) (replaces_term b && true) can)))

  finite_in_fits : (width : ℕ) (t : Term) (mask k : ℕ) (x : FiniteSide) → SideFits (signature_of p) (length places) k x → sort_of (signature_of p) t ≡ Some (Sort.Fin k) → IsTrue (literal_fits (signature_of p) width (FinIn t mask))
      → IsTrue (literal_fits (signature_of p) (length places) (side_in x mask))
  unfolding SideFits
  finite_in_fits width t mask k (Known c) h e fits = refl
  finite_in_fits width t mask k (Has u) h e fits =
      mask_fits (signature_of p) (length places) k u mask h.0 h.1
      (subst (λ n. mask < 2 ^ n) (counts_of (signature_of p) t k e)
      (less_is mask (2 ^ constructors_at (signature_of p) t) (and_right (is_finite (sort_of (signature_of p) t) && place_fits width t) (nat_lt mask (2 ^ constructors_at (signature_of p) t)) fits)))

  finite_sort : (width : ℕ) (t : Term) (mask : ℕ) → IsTrue (literal_fits (signature_of p) width (FinIn t mask)) → (k : ℕ) × (sort_of (signature_of p) t ≡ Some (Sort.Fin k))
  finite_sort width t mask fits =
      finite_is (sort_of (signature_of p) t)
      (and_left (is_finite (sort_of (signature_of p) t)) (place_fits width t) (and_left (is_finite (sort_of (signature_of p) t) && place_fits width t) (nat_lt mask (2 ^ constructors_at (signature_of p) t)) fits))

  fits_all : (width : ℕ) (l : Lit) → width ≤ length places → IsTrue (literal_fits (signature_of p) width l) → IsTrue (list_all replaces_term (terms_of l)) → IsTrue (literal_fits (signature_of p) (length places) (replaced (signature_of p) value l))
  fits_all width (FinIn t mask) within fits can =
      let k = finite_sort width t mask fits in
      finite_in_fits width t mask k.0 (finite_side (value t)) (finite_fits t k.0 k.1 (and_left (replaces_term t) true can)) k.1 fits
  fits_all width (FinEq a b) within fits can = finite_both_fit width a b fits can
  fits_all width (FinNe a b) within fits can = negated_fits (signature_of p) (length places) (sides_equal (finite_side (value a)) (finite_side (value b))) (finite_both_fit width a b fits can)
  fits_all width (ProcEq a b) within fits can =
      let parts = split_all replaces_term (process_side_terms a) (process_side_terms b) can in
      and_both (process_side_fits (signature_of p) (length places) (replaced_process_side value a)) (process_side_fits (signature_of p) (length places) (replaced_process_side value b))
      (replaced_process_fits width a within (and_left (process_side_fits (signature_of p) width a) (process_side_fits (signature_of p) width b) fits) parts.0)
      (replaced_process_fits width b within (and_right (process_side_fits (signature_of p) width a) (process_side_fits (signature_of p) width b) fits) parts.1)
  fits_all width (ProcNe a b) within fits can =
      let parts = split_all replaces_term (process_side_terms a) (process_side_terms b) can in
      and_both (process_side_fits (signature_of p) (length places) (replaced_process_side value a)) (process_side_fits (signature_of p) (length places) (replaced_process_side value b))
      (replaced_process_fits width a within (and_left (process_side_fits (signature_of p) width a) (process_side_fits (signature_of p) width b) fits) parts.0)
      (replaced_process_fits width b within (and_right (process_side_fits (signature_of p) width a) (process_side_fits (signature_of p) width b) fits) parts.1)
  fits_all width (Diff a b bound) within fits can =
      let parts = split_all replaces_term (integer_side_terms a) (integer_side_terms b) can in
      and_both (integer_side_fits (signature_of p) (length places) (replaced_base value a)) (integer_side_fits (signature_of p) (length places) (replaced_base value b))
      (replaced_integer_fits width a (and_left (integer_side_fits (signature_of p) width a) (integer_side_fits (signature_of p) width b) fits) parts.0)
      (replaced_integer_fits width b (and_right (integer_side_fits (signature_of p) width a) (integer_side_fits (signature_of p) width b) fits) parts.1)

  pub replaced_fits_all : (width : ℕ) (l : Lit) → width ≤ length places → IsTrue (literal_fits (signature_of p) width l) → IsTrue (can_replace_all (signature_of p) (length places) value l)
      → IsTrue (literal_fits (signature_of p) (length places) (replaced (signature_of p) value l))
  unfolding replaces_term
  replaced_fits_all width l within fits can = fits_all width l within fits can

  module _ (after : Configuration) (others : List ℕ) (state : IsStateOf p s) (distinct : AreDistinctAlive s places) where
    finite_is_at : (t : Term) (k : ℕ) → sort_of (signature_of p) t ≡ Some (Sort.Fin k) → IsTrue (replaces_term t) → Takes after others t → constructor_of_side s places (finite_side (value t)) ≡ constructor_at after others t
    unfolding replaces_term Takes
    finite_is_at t k e can takes =
        side_is (signature_of p) s places (length places) k (value t) (term_value s places t) (replaces (signature_of p) (length places) value t (Sort.Fin k) e can) ∙ ap constructor_of (sym takes)

    equal_true : (width : ℕ) (a b : Term) → IsTrue (literal_fits (signature_of p) width (FinEq a b)) → IsTrue (list_all replaces_term (a ∷ b ∷ [])) → AllByRecursion (Takes after others) (a ∷ b ∷ [])
        → is_true s places (sides_equal (finite_side (value a)) (finite_side (value b))) ≡ (constructor_at after others a == constructor_at after others b)
    equal_true width a b fits can takes =
        let k = finite_both (sort_of (signature_of p) a) (sort_of (signature_of p) b)
        (and_left (same_finite (sort_of (signature_of p) a) (sort_of (signature_of p) b)) (place_fits width a)
        (and_left (same_finite (sort_of (signature_of p) a) (sort_of (signature_of p) b) && place_fits width a) (place_fits width b) fits)) in
        sides_equal_true s places (finite_side (value a)) (finite_side (value b))
        ∙ ap (λ x. x == constructor_of_side s places (finite_side (value b))) (finite_is_at a k.0 k.1 (and_left (replaces_term a) (replaces_term b && true) can) takes.0)
        ∙ ap (λ x. constructor_at after others a == x) (finite_is_at b k.0 k.2 (and_left (replaces_term b) true (and_right (replaces_term a) (replaces_term b && true) can)) takes.1.0)

    processes_same : (width : ℕ) (a b : PSide) → IsTrue (process_side_fits (signature_of p) width a && process_side_fits (signature_of p) width b) → IsTrue (list_all replaces_term (process_side_terms a ++ process_side_terms b)) → Agree width others places
        → AllByRecursion (Takes after others) (process_side_terms a ++ process_side_terms b)
        → (process_at s places (replaced_process_side value a) == process_at s places (replaced_process_side value b)) ≡ (process_at after others a == process_at after others b)
    processes_same width a b fits can agree takes =
        let parts = split_all replaces_term (process_side_terms a) (process_side_terms b) can in
        let each = split_each (Takes after others) (process_side_terms a) (process_side_terms b) takes in
        ap (λ x. x == process_at s places (replaced_process_side value b))
        (replaced_process_is after others width a (and_left (process_side_fits (signature_of p) width a) (process_side_fits (signature_of p) width b) fits) parts.0 agree each.0)
        ∙ ap (λ x. process_at after others a == x)
        (replaced_process_is after others width b (and_right (process_side_fits (signature_of p) width a) (process_side_fits (signature_of p) width b) fits) parts.1 agree each.1)

    true_all : (width : ℕ) (l : Lit) → IsTrue (literal_fits (signature_of p) width l) → IsTrue (list_all replaces_term (terms_of l)) → Agree width others places → AllByRecursion (Takes after others) (terms_of l)
        → is_true s places (replaced (signature_of p) value l) ≡ is_true after others l
    true_all width (FinIn t mask) fits can agree takes =
        let k = finite_sort width t mask fits in
        side_in_true s places (finite_side (value t)) mask ∙ ap (has_bit mask) (finite_is_at t k.0 k.1 (and_left (replaces_term t) true can) takes.0)
    true_all width (FinEq a b) fits can agree takes = equal_true width a b fits can takes
    true_all width (FinNe a b) fits can agree takes =
        negated_is p s places state (processes_within s places distinct) (sides_equal (finite_side (value a)) (finite_side (value b))) (finite_both_fit width a b fits can) ∙ ap not (equal_true width a b fits can takes)
    true_all width (ProcEq a b) fits can agree takes = processes_same width a b fits can agree takes
    true_all width (ProcNe a b) fits can agree takes = ap not (processes_same width a b fits can agree takes)
    true_all width (Diff a b bound) fits can agree takes =
        let parts = split_all replaces_term (integer_side_terms a) (integer_side_terms b) can in
        let each = split_each (Takes after others) (integer_side_terms a) (integer_side_terms b) takes in
        moved (integer_at s places (replaced_base value a)) (integer_at s places (replaced_base value b)) (replaced_added value a) (replaced_added value b) (integer_at after others a) (integer_at after others b) bound
        (replaced_integer_is after others width a (and_left (integer_side_fits (signature_of p) width a) (integer_side_fits (signature_of p) width b) fits) parts.0 each.0)
        (replaced_integer_is after others width b (and_right (integer_side_fits (signature_of p) width a) (integer_side_fits (signature_of p) width b) fits) parts.1 each.1)

    pub replaced_true : (width : ℕ) (l : Lit) → IsTrue (literal_fits (signature_of p) width l) → IsTrue (can_replace_all (signature_of p) (length places) value l) → Agree width others places → TakesValues s places after others value l
        → is_true s places (replaced (signature_of p) value l) ≡ is_true after others l
    unfolding replaces_term Takes
    replaced_true width l fits can agree takes =
        true_all width l fits can agree (recursion_from_All (λ t. term_value after others t ≡ meaning_of s places (value t) (term_value s places t)) (terms_of l) takes)

pub replaced_fits_wide : (p : Protocol) (width wide : ℕ) (value : Term → Value) (l : Lit) → width ≤ wide → IsTrue (literal_fits (signature_of p) width l) → IsTrue (can_replace_all (signature_of p) wide value l)
    → IsTrue (literal_fits (signature_of p) wide (replaced (signature_of p) value l))
replaced_fits_wide p width wide value l within fits can =
    let size = length-range_with_len 0 wide in
    subst (λ n. IsTrue (literal_fits (signature_of p) n (replaced (signature_of p) value l))) size
    (replaced_fits_all p (any_state p) (identity wide) value width l (subst (λ n. width ≤ n) (sym size) within) fits
    (subst (λ n. IsTrue (can_replace_all (signature_of p) n value l)) (sym size) can))
  where
    any_state : Protocol → Configuration
    any_state p = first_state p 1
