-- A literal that is true by itself is true at every state of the protocol, at processes that are distinct.
use Rattle.std.proofs.Common.{◌≡◌, ℕ, ◌<◌, ◌^◌, ◌-◌, ℤ, pos, true, List, length, refl, sym, ap, ◌∙◌, arith}
use Rattle.std.specs.Prelude.{◌&&◌, ◌==◌, not, IsTrue, nat_lt, slice_index, int_le, ◌-ℤ◌}
use Rattle.std.specs.Ordering.{is_eq}
use Rattle.std.specs.declared.cmp.Ordering.{Ordering}
use Rattle.std.specs.declared.cmp.Ordering.TheVariants.{Less, Equal, Greater}
use Rattle.std.proofs.lemmas.Nat.Bits.{bit_at_ones}
use Rattle.std.proofs.lemmas.Bool.Decides.{nat_tests}
use Rattle.std.proofs.lemmas.Int.{ints}
use Rattle.cub_proto.specs.declared.literal.PSide.{PSide}
use Rattle.cub_proto.specs.declared.literal.Lit.{Lit}
use Rattle.cub_proto.specs.declared.literal.Lit.TheVariants.{FinIn, FinEq, FinNe, ProcEq, ProcNe, Diff}
use Rattle.cub_proto.specs.declared.protocol.Protocol.{Protocol}
use Rattle.cub_proto.specs.Configuration.{Configuration}
use Rattle.cub_proto.specs.Signature.{sort_of, constructors_at}
use Rattle.cub_proto.specs.StateOf.{IsStateOf, signature_of}
use Rattle.cub_proto.specs.Fits.{literal_fits, is_finite, place_fits, process_side_fits}
use Rattle.cub_proto.specs.Truth.{is_true, has_bit, constructor_at, process_at, integer_at}
use Rattle.cub_proto.specs.Legal.{AreDistinctAlive}
use Rattle.cub_proto.specs.Order.{term_cmp, process_side_cmp, integer_side_cmp}
use Rattle.cub_cube.specs.Normal.{is_true_alone, full_mask, are_two_places}
use Rattle.cub_base.proofs.Bools.{and_left, and_right, same_refl, same_is, less_is}
use Rattle.cub_cube.proofs.Orders.{terms_equal, process_sides_equal, integer_sides_equal}
use Rattle.cub_cube.proofs.States.{processes_within, apart}
use Rattle.cub_proto.proofs.Opposite.{constructor_below}

equal_from : (o : Ordering) → IsTrue (is_eq o) → o ≡ Equal
equal_from Less h = cc
equal_from Equal h = refl
equal_from Greater h = cc

full_has : (n c : ℕ) → c < n → has_bit (2 ^ n - 1) c ≡ true
full_has n c below = ap (λ b. b == 1) (bit_at_ones n c below)

nothing_between : (x bound : ℤ) → IsTrue (int_le (pos 0) bound) → int_le (x -ℤ x) bound ≡ true
nothing_between x bound h = grind (arith, ints)

pub not_same : (x y : ℕ) → (x ≡ y → ⊥) → not (x == y) ≡ true
not_same x y h = grind (arith, nat_tests)

pub is_not_same : (x y : ℕ) → IsTrue (not (x == y)) → x ≡ y → ⊥
is_not_same x y h e = grind (arith, nat_tests)

module _ (p : Protocol) (s : Configuration) (places : List ℕ) (state : IsStateOf p s) (distinct : AreDistinctAlive s places) where
  two_places_true : (a b : PSide) → IsTrue (process_side_fits (signature_of p) (length places) a) → IsTrue (process_side_fits (signature_of p) (length places) b) → IsTrue (are_two_places a b)
      → not (process_at s places a == process_at s places b) ≡ true
  two_places_true (PSide.Global g) b fit fits h = cc
  two_places_true (PSide.Place i) (PSide.Global g) fit fits h = cc
  two_places_true (PSide.Place i) (PSide.Place j) fit fits h =
      not_same (slice_index places i) (slice_index places j) (apart s places distinct i j (less_is i (length places) fit) (less_is j (length places) fits) (is_not_same i j h))

  pub alone_true : (l : Lit) → IsTrue (literal_fits (signature_of p) (length places) l) → IsTrue (is_true_alone (signature_of p) l) → is_true s places l ≡ true
  alone_true (FinIn t mask) fits h =
      let left = and_left (is_finite (sort_of (signature_of p) t) && place_fits (length places) t) (nat_lt mask (2 ^ constructors_at (signature_of p) t)) fits in
      let finite = and_left (is_finite (sort_of (signature_of p) t)) (place_fits (length places) t) left in
      let within = and_right (is_finite (sort_of (signature_of p) t)) (place_fits (length places) t) left in
      ap (λ m. has_bit m (constructor_at s places t)) (same_is mask (full_mask (signature_of p) t) h)
      ∙ full_has (constructors_at (signature_of p) t) (constructor_at s places t) (constructor_below p s places state (processes_within s places distinct) t within finite)
  alone_true (FinEq a b) fits h =
      ap (λ t. constructor_at s places a == constructor_at s places t) (sym (terms_equal a b (equal_from (term_cmp a b) h))) ∙ same_refl (constructor_at s places a)
  alone_true (FinNe a b) fits h = cc
  alone_true (ProcEq a b) fits h =
      ap (λ t. process_at s places a == process_at s places t) (sym (process_sides_equal a b (equal_from (process_side_cmp a b) h))) ∙ same_refl (process_at s places a)
  alone_true (ProcNe a b) fits h =
      two_places_true a b (and_left (process_side_fits (signature_of p) (length places) a) (process_side_fits (signature_of p) (length places) b) fits)
      (and_right (process_side_fits (signature_of p) (length places) a) (process_side_fits (signature_of p) (length places) b) fits) h
  alone_true (Diff a b bound) fits h =
      ap (λ t. int_le (integer_at s places a -ℤ integer_at s places t) bound)
      (sym (integer_sides_equal a b (equal_from (integer_side_cmp a b) (and_left (is_eq (integer_side_cmp a b)) (int_le (pos 0) bound) h))))
      ∙ nothing_between (integer_at s places a) bound (and_right (is_eq (integer_side_cmp a b)) (int_le (pos 0) bound) h)
