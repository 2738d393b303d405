-- Literals of one subject, and what joining them and ordering their sides leaves true.
use Rattle.std.proofs.Common.{◌≡◌, ℕ, ◌<◌, ℤ, Bool, cond, true, false, List, refl, ap, subst, arith, min}
use Rattle.std.specs.Prelude.{◌&&◌, ◌==◌, not, bit_and, int_le, ◌-ℤ◌}
use Rattle.std.specs.Int.{int_min, bit_at}
use Rattle.std.specs.Ordering.{is_gt, ordering_then}
use Rattle.std.specs.declared.cmp.Ordering.TheVariants.{Equal}
use Rattle.std.proofs.lemmas.Nat.Bits.{bit_at_and, bit_at-lt}
use Rattle.std.proofs.lemmas.Bool.Decides.{nat_tests}
use Rattle.std.proofs.lemmas.Int.{ints}
use Rattle.cub_proto.specs.declared.literal.Term.{Term}
use Rattle.cub_proto.specs.declared.literal.PSide.{PSide}
use Rattle.cub_proto.specs.declared.literal.ISide.{ISide}
use Rattle.cub_proto.specs.declared.literal.Lit.{Lit}
use Rattle.cub_proto.specs.declared.literal.Lit.TheVariants.{FinIn, FinEq, FinNe, ProcEq, ProcNe, Diff}
use Rattle.cub_proto.specs.Configuration.{Configuration}
use Rattle.cub_proto.specs.Truth.{is_true, has_bit, constructor_at, process_at, integer_at}
use Rattle.cub_proto.specs.Order.{term_cmp, process_side_cmp, integer_side_cmp}
use Rattle.cub_cube.specs.Normal.{ordered, subject_cmp, joined}
use Rattle.cub_base.proofs.Bools.{and_self, same_comm}
use Rattle.cub_cube.proofs.Orders.{then_both, terms_equal, process_sides_equal, integer_sides_equal}

-- both speak of the same thing
pub data OneSubject : Lit → Lit → Type 0 where
  masks : (t : Term) (m n : ℕ) → OneSubject (FinIn t m) (FinIn t n)
  equal_terms : (a b : Term) → OneSubject (FinEq a b) (FinEq a b)
  unequal_terms : (a b : Term) → OneSubject (FinNe a b) (FinNe a b)
  equal_processes : (a b : PSide) → OneSubject (ProcEq a b) (ProcEq a b)
  unequal_processes : (a b : PSide) → OneSubject (ProcNe a b) (ProcNe a b)
  bounds : (a b : ISide) (m n : ℤ) → OneSubject (Diff a b m) (Diff a b n)

pub one_subject : (l m : Lit) → subject_cmp l m ≡ Equal → OneSubject l m
one_subject (FinIn t m) (FinIn u n) h =
    let both = then_both (term_cmp t u) Equal h in
    subst (λ v. OneSubject (FinIn t m) (FinIn v n)) (terms_equal t u both.0) (masks t m n)
one_subject (FinEq a b) (FinEq c d) h =
    let both = then_both (term_cmp a c) (term_cmp b d) h in
    subst (λ v. OneSubject (FinEq a b) (FinEq v d)) (terms_equal a c both.0)
    (subst (λ v. OneSubject (FinEq a b) (FinEq a v)) (terms_equal b d both.1) (equal_terms a b))
one_subject (FinNe a b) (FinNe c d) h =
    let both = then_both (term_cmp a c) (term_cmp b d) h in
    subst (λ v. OneSubject (FinNe a b) (FinNe v d)) (terms_equal a c both.0)
    (subst (λ v. OneSubject (FinNe a b) (FinNe a v)) (terms_equal b d both.1) (unequal_terms a b))
one_subject (ProcEq a b) (ProcEq c d) h =
    let both = then_both (process_side_cmp a c) (process_side_cmp b d) h in
    subst (λ v. OneSubject (ProcEq a b) (ProcEq v d)) (process_sides_equal a c both.0)
    (subst (λ v. OneSubject (ProcEq a b) (ProcEq a v)) (process_sides_equal b d both.1) (equal_processes a b))
one_subject (ProcNe a b) (ProcNe c d) h =
    let both = then_both (process_side_cmp a c) (process_side_cmp b d) h in
    subst (λ v. OneSubject (ProcNe a b) (ProcNe v d)) (process_sides_equal a c both.0)
    (subst (λ v. OneSubject (ProcNe a b) (ProcNe a v)) (process_sides_equal b d both.1) (unequal_processes a b))
one_subject (Diff a b m) (Diff c d n) h =
    let first = then_both (integer_side_cmp a c) (ordering_then (integer_side_cmp b d) Equal) h in
    let second = then_both (integer_side_cmp b d) Equal first.1 in
    subst (λ v. OneSubject (Diff a b m) (Diff v d n)) (integer_sides_equal a c first.0)
    (subst (λ v. OneSubject (Diff a b m) (Diff a v n)) (integer_sides_equal b d second.0) (bounds a b m n))
one_subject l m h = cc

-- a constructor is in both masks
pub has_bit-bit_and : (m n c : ℕ) → has_bit (bit_and m n) c ≡ (has_bit m c && has_bit n c)
has_bit-bit_and m n c = rw (bit_at_and m n c) (of_bits (bit_at m c) (bit_at n c) (bit_at-lt m c) (bit_at-lt n c))
  where
    of_bits : (x y : ℕ) → x < 2 → y < 2 → (min x y == 1) ≡ ((x == 1) && (y == 1))
    of_bits x y h k = grind (arith, nat_tests)

-- an integer is within both bounds
pub int_le-int_min : (x m n : ℤ) → int_le x (int_min m n) ≡ (int_le x m && int_le x n)
int_le-int_min x m n = grind (arith, ints)

module _ (s : Configuration) (places : List ℕ) where
  pub joined_true : (l m : Lit) → OneSubject l m → is_true s places (joined m l) ≡ (is_true s places m && is_true s places l)
  joined_true _ _ (masks t m n) = has_bit-bit_and n m (constructor_at s places t)
  joined_true _ _ (equal_terms a b) = and_self (constructor_at s places a == constructor_at s places b)
  joined_true _ _ (unequal_terms a b) = and_self _
  joined_true _ _ (equal_processes a b) = and_self _
  joined_true _ _ (unequal_processes a b) = and_self _
  joined_true _ _ (bounds a b m n) = int_le-int_min (integer_at s places a -ℤ integer_at s places b) n m

  pub ordered_true : (l : Lit) → is_true s places (ordered l) ≡ is_true s places l
  ordered_true (FinIn t mask) = refl
  ordered_true (FinEq a b) = by (is_gt (term_cmp a b))
    where
      by : (x : Bool) → is_true s places (cond x (FinEq b a) (FinEq a b)) ≡ is_true s places (FinEq a b)
      by true = same_comm (constructor_at s places b) (constructor_at s places a)
      by false = refl
  ordered_true (FinNe a b) = by (is_gt (term_cmp a b))
    where
      by : (x : Bool) → is_true s places (cond x (FinNe b a) (FinNe a b)) ≡ is_true s places (FinNe a b)
      by true = ap not (same_comm (constructor_at s places b) (constructor_at s places a))
      by false = refl
  ordered_true (ProcEq a b) = by (is_gt (process_side_cmp a b))
    where
      by : (x : Bool) → is_true s places (cond x (ProcEq b a) (ProcEq a b)) ≡ is_true s places (ProcEq a b)
      by true = same_comm (process_at s places b) (process_at s places a)
      by false = refl
  ordered_true (ProcNe a b) = by (is_gt (process_side_cmp a b))
    where
      by : (x : Bool) → is_true s places (cond x (ProcNe b a) (ProcNe a b)) ≡ is_true s places (ProcNe a b)
      by true = ap not (same_comm (process_at s places b) (process_at s places a))
      by false = refl
  ordered_true (Diff a b bound) = refl
