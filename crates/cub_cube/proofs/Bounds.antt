-- How bounds of literals grow, and who meets conjunctions of the same meaning.
use Rattle.std.proofs.Common.{◌≡◌, ℕ, ◌+◌, ◌*◌, ◌≤◌, ℤ, pos, Bool, true, false, cond, List, [], ◌∷◌, ◌++◌, Option, Some, refl, sym, ap, ◌∙◌, subst, arith}
use Rattle.std.specs.Prelude.{◌&&◌, IsTrue, nat_le, unsigned_abs, ◌-ℤ◌, ◌+ℤ◌, int_lt, fold}
use Rattle.std.specs.Int.{int_min}
use Rattle.std.specs.List.{list_all}
use Rattle.std.specs.Option.{option_map_or}
use Rattle.std.specs.Ordering.{is_gt}
use Rattle.std.proofs.lemmas.Int.{ints}
use Rattle.cub_proto.specs.declared.literal.Sort.{Sort}
use Rattle.cub_proto.specs.declared.literal.Sort.TheVariants as Sort
use Rattle.cub_proto.specs.declared.literal.Term.{Term}
use Rattle.cub_proto.specs.declared.literal.ISide.{ISide}
use Rattle.cub_proto.specs.declared.literal.ISide.TheVariants.{Zero, At}
use Rattle.cub_proto.specs.declared.literal.Lit.{Lit}
use Rattle.cub_proto.specs.declared.literal.Lit.TheVariants.{FinIn, FinEq, FinNe, ProcEq, ProcNe, Diff}
use Rattle.cub_proto.specs.declared.literal.Value.{Value}
use Rattle.cub_proto.specs.declared.literal.Value.TheVariants as Value
use Rattle.cub_proto.specs.declared.protocol.Protocol.{Protocol}
use Rattle.cub_proto.specs.Configuration.{Configuration}
use Rattle.cub_proto.specs.Signature.{Signature, sort_of, is_sort}
use Rattle.cub_proto.specs.StateOf.{IsStateOf, signature_of}
use Rattle.cub_proto.specs.Fits.{literal_fits, is_bounded, greatest_constant, integer_side_fits, place_fits}
use Rattle.cub_proto.specs.Meets.{Meets}
use Rattle.cub_proto.specs.Negation.{negated}
use Rattle.cub_proto.specs.Order.{term_cmp, process_side_cmp}
use Rattle.cub_proto.proofs.StateValues.{sort_is}
use Rattle.cub_cube.specs.Normal.{ordered, is_true_alone, joined, inserted, placed}
use Rattle.cub_cube.specs.Mentions.{integer_side_terms}
use Rattle.cub_cube.specs.Meaning.{SameMeaning, AreAtPlaces}
use Rattle.cub_cube.specs.Replace.{replaced, constant, FiniteSide, Known, Has, finite_side, side_in, sides_equal, added_of, replaced_added, can_replace, can_replace_all}
use Rattle.cub_base.proofs.Bools.{and_left, and_right, is_le, le_is}
use Rattle.cub_cube.proofs.Subjects.{OneSubject, masks, equal_terms, unequal_terms, equal_processes, unequal_processes, bounds}
use Rattle.cub_cube.proofs.Form.{all_inserted}
use Rattle.cub_cube.proofs.Replaced.{replaces, split_all}

-- ---- the normal form
least_bounded : (limit : ℕ) (m n : ℤ) → IsTrue (nat_le (unsigned_abs m) limit) → IsTrue (nat_le (unsigned_abs n) limit) → IsTrue (nat_le (unsigned_abs (int_min n m)) limit)
least_bounded limit m n h k = by (int_lt m n)
  where
    by : (b : Bool) → IsTrue (nat_le (unsigned_abs (cond b m n)) limit)
    by true = h
    by false = k

joined_bounded : (limit : ℕ) (l m : Lit) → OneSubject l m → IsTrue (is_bounded limit l) → IsTrue (is_bounded limit m) → IsTrue (is_bounded limit (joined m l))
joined_bounded limit _ _ (masks t m n) h k = refl
joined_bounded limit _ _ (equal_terms a b) h k = refl
joined_bounded limit _ _ (unequal_terms a b) h k = refl
joined_bounded limit _ _ (equal_processes a b) h k = refl
joined_bounded limit _ _ (unequal_processes a b) h k = refl
joined_bounded limit _ _ (bounds a b m n) h k = least_bounded limit m n h k

ordered_bounded : (limit : ℕ) (l : Lit) → IsTrue (is_bounded limit l) → IsTrue (is_bounded limit (ordered l))
ordered_bounded limit (FinIn t mask) h = refl
ordered_bounded limit (FinEq a b) h = by (is_gt (term_cmp a b))
  where
    by : (x : Bool) → IsTrue (is_bounded limit (cond x (FinEq b a) (FinEq a b)))
    by true = refl
    by false = refl
ordered_bounded limit (FinNe a b) h = by (is_gt (term_cmp a b))
  where
    by : (x : Bool) → IsTrue (is_bounded limit (cond x (FinNe b a) (FinNe a b)))
    by true = refl
    by false = refl
ordered_bounded limit (ProcEq a b) h = by (is_gt (process_side_cmp a b))
  where
    by : (x : Bool) → IsTrue (is_bounded limit (cond x (ProcEq b a) (ProcEq a b)))
    by true = refl
    by false = refl
ordered_bounded limit (ProcNe a b) h = by (is_gt (process_side_cmp a b))
  where
    by : (x : Bool) → IsTrue (is_bounded limit (cond x (ProcNe b a) (ProcNe a b)))
    by true = refl
    by false = refl
ordered_bounded limit (Diff a b bound) h = h

pub fold_bounded : (sig : Signature) (limit : ℕ) (form lits : List Lit) → IsTrue (list_all (is_bounded limit) form) → IsTrue (list_all (is_bounded limit) lits) → IsTrue (list_all (is_bounded limit) (fold (placed sig) form lits))
fold_bounded sig limit form [] all h = all
fold_bounded sig limit form (l ∷ ls) all h =
    fold_bounded sig limit (placed sig form l) ls (by (is_true_alone sig l)) (and_right (is_bounded limit l) (list_all (is_bounded limit) ls) h)
  where
    by : (b : Bool) → IsTrue (list_all (is_bounded limit) (cond b form (inserted form (ordered l))))
    by true = all
    by false = all_inserted (is_bounded limit) (joined_bounded limit) form (ordered l) all (ordered_bounded limit l (and_left (is_bounded limit l) (list_all (is_bounded limit) ls) h))

-- ---- replacement
small : (limit : ℕ) → 1 ≤ limit + 2 * greatest_constant
small limit = omega arith

constant_bounded : (limit : ℕ) (b : Bool) → IsTrue (is_bounded (limit + 2 * greatest_constant) (constant b))
constant_bounded limit true = is_le 0 (limit + 2 * greatest_constant) (omega arith)
constant_bounded limit false = is_le 1 (limit + 2 * greatest_constant) (small limit)

negated_constant_bounded : (sig : Signature) (limit : ℕ) (b : Bool) → IsTrue (is_bounded (limit + 2 * greatest_constant) (negated sig (constant b)))
negated_constant_bounded sig limit true = is_le 1 (limit + 2 * greatest_constant) (small limit)
negated_constant_bounded sig limit false = is_le 0 (limit + 2 * greatest_constant) (omega arith)

side_in_bounded : (limit : ℕ) (x : FiniteSide) (mask : ℕ) → IsTrue (is_bounded (limit + 2 * greatest_constant) (side_in x mask))
side_in_bounded limit (Known c) mask = constant_bounded limit _
side_in_bounded limit (Has t) mask = refl

sides_equal_bounded : (limit : ℕ) (x y : FiniteSide) → IsTrue (is_bounded (limit + 2 * greatest_constant) (sides_equal x y))
sides_equal_bounded limit (Known c) (Known d) = constant_bounded limit _
sides_equal_bounded limit (Known c) (Has u) = refl
sides_equal_bounded limit (Has t) (Known d) = refl
sides_equal_bounded limit (Has t) (Has u) = refl

sides_unequal_bounded : (sig : Signature) (limit : ℕ) (x y : FiniteSide) → IsTrue (is_bounded (limit + 2 * greatest_constant) (negated sig (sides_equal x y)))
sides_unequal_bounded sig limit (Known c) (Known d) = negated_constant_bounded sig limit _
sides_unequal_bounded sig limit (Known c) (Has u) = refl
sides_unequal_bounded sig limit (Has t) (Known d) = refl
sides_unequal_bounded sig limit (Has t) (Has u) = refl

moved_bounded : (limit g : ℕ) (bound m n : ℤ) → unsigned_abs bound ≤ limit → unsigned_abs m ≤ g → unsigned_abs n ≤ g → unsigned_abs (bound -ℤ m +ℤ n) ≤ limit + 2 * g
moved_bounded limit g bound m n h k l = grind (arith, ints)

module _ (p : Protocol) (width wide : ℕ) (value : Term → Value) where
  added_small : (a : ISide) → IsTrue (integer_side_fits (signature_of p) width a) → IsTrue (list_all (λ t. option_map_or (λ sort. can_replace (signature_of p) wide sort (value t)) (sort_of (signature_of p) t) false) (integer_side_terms a))
      → unsigned_abs (replaced_added value a) ≤ greatest_constant
  added_small Zero fits can = omega arith
  added_small (At t) fits can =
      by (value t)
      (replaces (signature_of p) wide value t Sort.Int (sort_is (sort_of (signature_of p) t) Sort.Int (and_left (is_sort (sort_of (signature_of p) t) Sort.Int) (place_fits width t) fits))
      (and_left (option_map_or (λ sort. can_replace (signature_of p) wide sort (value t)) (sort_of (signature_of p) t) false) true can))
    where
      by : (v : Value) → IsTrue (can_replace (signature_of p) wide Sort.Int v) → unsigned_abs (added_of v) ≤ greatest_constant
      by (Value.Con c) h = cc
      by (Value.Read u) h = omega arith
      by (Value.Proc side) h = cc
      by (Value.Sum base add) h = le_is (unsigned_abs add) greatest_constant (and_right (integer_side_fits (signature_of p) wide base) (nat_le (unsigned_abs add) greatest_constant) h)
      by Value.Any h = cc

  bounded_all : (limit : ℕ) (l : Lit) → IsTrue (literal_fits (signature_of p) width l) → IsTrue (can_replace_all (signature_of p) wide value l) → IsTrue (is_bounded limit l)
      → IsTrue (is_bounded (limit + 2 * greatest_constant) (replaced (signature_of p) value l))
  bounded_all limit (FinIn t mask) fits can h = side_in_bounded limit (finite_side (value t)) mask
  bounded_all limit (FinEq a b) fits can h = sides_equal_bounded limit (finite_side (value a)) (finite_side (value b))
  bounded_all limit (FinNe a b) fits can h = sides_unequal_bounded (signature_of p) limit (finite_side (value a)) (finite_side (value b))
  bounded_all limit (ProcEq a b) fits can h = refl
  bounded_all limit (ProcNe a b) fits can h = refl
  bounded_all limit (Diff a b bound) fits can h =
      let parts = split_all (λ t. option_map_or (λ sort. can_replace (signature_of p) wide sort (value t)) (sort_of (signature_of p) t) false) (integer_side_terms a) (integer_side_terms b) can in
      is_le (unsigned_abs (bound -ℤ replaced_added value a +ℤ replaced_added value b)) (limit + 2 * greatest_constant)
      (moved_bounded limit greatest_constant bound (replaced_added value a) (replaced_added value b) (le_is (unsigned_abs bound) limit h)
      (added_small a (and_left (integer_side_fits (signature_of p) width a) (integer_side_fits (signature_of p) width b) fits) parts.0)
      (added_small b (and_right (integer_side_fits (signature_of p) width a) (integer_side_fits (signature_of p) width b) fits) parts.1))

pub replaced_bounded : (p : Protocol) (width wide limit : ℕ) (value : Term → Value) (l : Lit) → IsTrue (literal_fits (signature_of p) width l) → IsTrue (can_replace_all (signature_of p) wide value l) → IsTrue (is_bounded limit l)
    → IsTrue (is_bounded (limit + 2 * greatest_constant) (replaced (signature_of p) value l))
replaced_bounded p width wide limit value l = bounded_all p width wide value limit l

-- ---- the same meaning
pub same_back : (p : Protocol) (width : ℕ) (lits others : List Lit) → SameMeaning p width lits others → SameMeaning p width others lits
same_back p width lits others same s places at = sym (same s places at)

pub same_meets : (p : Protocol) (width : ℕ) (lits others : List Lit) → SameMeaning p width lits others → (s : Configuration) → IsStateOf p s → Meets s width lits → Meets s width others
same_meets p width lits others same s state (places, sat) = (
  places,
  record {
    one_each = sat.one_each;
    processes = sat.processes;
    holds = sym (same s places (record { state = state; one_each = sat.one_each; processes = sat.processes })) ∙ sat.holds;
  },
)
