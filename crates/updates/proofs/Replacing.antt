-- What code needs of values that can stand for terms: constructors below 64, small constants.
use Rattle.std.proofs.Common.{◌≡◌, ℕ, ◌≤◌, true, false, ◌++◌, refl, subst, arith}
use Rattle.std.specs.Prelude.{◌&&◌, IsTrue, nat_le, unsigned_abs}
use Rattle.std.specs.List.{list_all}
use Rattle.std.specs.Option.{option_map_or}
use Rattle.cub_proto.specs.declared.literal.Sort.{Sort}
use Rattle.cub_proto.specs.declared.literal.Term.{Term}
use Rattle.cub_proto.specs.declared.literal.ISide.{ISide}
use Rattle.cub_proto.specs.declared.literal.ISide.TheVariants.{Zero, At}
use Rattle.cub_proto.specs.declared.literal.Lit.TheVariants.{FinEq}
use Rattle.cub_proto.specs.declared.literal.Value.{Value}
use Rattle.cub_proto.specs.declared.protocol.Protocol.{Protocol}
use Rattle.cub_proto.specs.Signature.{sort_of, constructors_of, is_sort, same_finite}
use Rattle.cub_proto.specs.StateOf.{signature_of}
use Rattle.cub_proto.specs.Fits.{literal_fits, place_fits, integer_side_fits, greatest_constant}
use Rattle.cub_proto.proofs.Constructors.{few_constructors}
use Rattle.cub_proto.proofs.StateValues.{sort_is}
use Rattle.cub_base.proofs.Bools.{and_left, and_right, less_is, is_less, le_is}
use Rattle.cub_cube.specs.Mentions.{integer_side_terms}
use Rattle.cub_cube.specs.Replace.{finite_side, replaced_added, added_of, can_replace, can_replace_all}
use Rattle.cub_cube.proofs.Replaced.{finite_both, split_all, replaces}
use Rattle.updates.specs.declared.values.Side.{Side}
use Rattle.updates.specs.Sides.{as_side, is_constructor}

-- the code's side of a value that can stand for a finite term is a constructor below 64
side_small : (p : Protocol) (width : ℕ) (k : ℕ) (v : Value) (x : Side) → constructors_of (signature_of p) (Sort.Fin k) ≤ 64 → IsTrue (can_replace (signature_of p) width (Sort.Fin k) v) → as_side x ≡ finite_side v → IsTrue (is_constructor x)
side_small p width k v (Side.Has t) few can e = refl
side_small p width k (Value.Con c) (Side.Known d) few can e =
    let same : d ≡ c = cc in
    let below = less_is c (constructors_of (signature_of p) (Sort.Fin k)) can in is_less d 64 (omega arith)
side_small p width k (Value.Read t) (Side.Known d) few can e = cc
side_small p width k (Value.Proc side) (Side.Known d) few can e = cc
side_small p width k (Value.Sum base add) (Side.Known d) few can e = cc
side_small p width k Value.Any (Side.Known d) few can e = cc

pub record BothSmall (x y : Side) : Type 0 where
  pub first : IsTrue (is_constructor x)
  pub second : IsTrue (is_constructor y)

pub both_small : (p : Protocol) (width : ℕ) (value : Term → Value) (a b : Term) (x y : Side) → IsTrue (literal_fits (signature_of p) width (FinEq a b)) → IsTrue (can_replace_all (signature_of p) width value (FinEq a b))
    → as_side x ≡ finite_side (value a) → as_side y ≡ finite_side (value b) → BothSmall x y
both_small p width value a b x y fits can e f =
    let sig = signature_of p in
    let front = and_left (same_finite (sort_of sig a) (sort_of sig b) && place_fits width a) (place_fits width b) fits in
    let k = finite_both (sort_of sig a) (sort_of sig b) (and_left (same_finite (sort_of sig a) (sort_of sig b)) (place_fits width a) front) in
    let test = λ (t : Term). option_map_or (λ sort. can_replace sig width sort (value t)) (sort_of sig t) false in
    let few : constructors_of sig (Sort.Fin k.0) ≤ 64 = subst (λ o. option_map_or (constructors_of sig) o 0 ≤ 64) k.1 (few_constructors p a) in
    record {
      first = side_small p width k.0 (value a) x few (replaces sig width value a (Sort.Fin k.0) k.1 (and_left (test a) (test b && true) can)) e;
      second = side_small p width k.0 (value b) y few (replaces sig width value b (Sort.Fin k.0) k.2 (and_left (test b) true (and_right (test a) (test b && true) can))) f;
    }

-- what is added to a side is small
added_small : (p : Protocol) (width : ℕ) (value : Term → Value) (a : ISide) → IsTrue (integer_side_fits (signature_of p) width a)
    → IsTrue (list_all (λ t. option_map_or (λ sort. can_replace (signature_of p) width sort (value t)) (sort_of (signature_of p) t) false) (integer_side_terms a)) → unsigned_abs (replaced_added value a) ≤ greatest_constant
added_small p width value Zero fits can = omega arith
added_small p width value (At t) fits can =
    let sig = signature_of p in
    by (value t) (replaces sig width value t Sort.Int (sort_is (sort_of sig t) Sort.Int (and_left (is_sort (sort_of sig t) Sort.Int) (place_fits width t) fits)) (and_left (option_map_or (λ sort. can_replace sig width sort (value t)) (sort_of sig t) false) true can))
  where
    by : (v : Value) → IsTrue (can_replace (signature_of p) width Sort.Int v) → unsigned_abs (added_of v) ≤ greatest_constant
    by (Value.Con c) h = cc
    by (Value.Read u) h = omega arith
    by (Value.Proc side) h = cc
    by (Value.Sum base add) h = le_is (unsigned_abs add) greatest_constant (and_right (integer_side_fits (signature_of p) width base) (nat_le (unsigned_abs add) greatest_constant) h)
    by Value.Any h = cc

pub record SmallAdded (value : Term → Value) (a b : ISide) : Type 0 where
  pub first : unsigned_abs (replaced_added value a) ≤ greatest_constant
  pub second : unsigned_abs (replaced_added value b) ≤ greatest_constant

pub small_added : (p : Protocol) (width : ℕ) (value : Term → Value) (a b : ISide) → IsTrue (integer_side_fits (signature_of p) width a && integer_side_fits (signature_of p) width b)
    → IsTrue (list_all (λ t. option_map_or (λ sort. can_replace (signature_of p) width sort (value t)) (sort_of (signature_of p) t) false) (integer_side_terms a ++ integer_side_terms b)) → SmallAdded value a b
small_added p width value a b fits can =
    let test = λ (t : Term). option_map_or (λ sort. can_replace (signature_of p) width sort (value t)) (sort_of (signature_of p) t) false in
    let parts = split_all test (integer_side_terms a) (integer_side_terms b) can in
    record {
      first = added_small p width value a (and_left (integer_side_fits (signature_of p) width a) (integer_side_fits (signature_of p) width b) fits) parts.0;
      second = added_small p width value b (and_right (integer_side_fits (signature_of p) width a) (integer_side_fits (signature_of p) width b) fits) parts.1;
    }
