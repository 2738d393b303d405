-- The negation of a literal is true exactly where the literal is false.
use Rattle.std.proofs.Common.{◌≡◌, ℕ, zero, suc, ◌-◌, ◌*◌, ◌^◌, ◌/◌, ◌%◌, ◌<◌, Bool, true, false, not, List, length, Option, Some, None, ℤ, pos, ◌-ℤ◌, refl, sym, ap, ◌∙◌, subst, arith}
use Rattle.std.specs.Prelude.{All, IsTrue, ◌&&◌, ◌==◌, nat_lt, int_le, nat_eq}
use Rattle.std.specs.Option.{option_map_or}
use Rattle.std.specs.Int.{bit_at}
use Rattle.std.proofs.lemmas.Bool.{ltb-true}
use Rattle.std.proofs.lemmas.Int.{ints}
use Rattle.std.proofs.lemmas.Nat.Bits.{bit_at-lt, bit_at_lowest, bit_at-suc}
use Rattle.std.proofs.Math.Nat.{two-pow-succ}
use Rattle.cub_proto.specs.declared.literal.Sort.{Sort}
use Rattle.cub_proto.specs.declared.literal.Term.{Term}
use Rattle.cub_proto.specs.declared.literal.Lit.{Lit}
use Rattle.cub_proto.specs.declared.literal.Lit.TheVariants.{FinIn, FinEq, FinNe, ProcEq, ProcNe, Diff}
use Rattle.cub_proto.specs.declared.state.Val.{Val}
use Rattle.cub_proto.specs.declared.state.Val.TheVariants.{Con, Proc, Int}
use Rattle.cub_proto.specs.declared.protocol.Protocol.{Protocol}
use Rattle.cub_proto.specs.Configuration.{Configuration, process_count}
use Rattle.cub_proto.specs.Signature.{Signature, sort_of, constructors_of, constructors_at}
use Rattle.cub_proto.specs.StateOf.{IsStateOf, IsOfSort, signature_of}
use Rattle.cub_proto.specs.Truth.{constructor_of, term_value, constructor_at, integer_at, is_true}
use Rattle.cub_proto.specs.Fits.{is_finite, place_fits, literal_fits}
use Rattle.cub_proto.specs.Negation.{negated}
use Rattle.cub_base.proofs.Bools.{and_left, and_right}
use Rattle.cub_proto.proofs.StateValues.{value_of_sort}

lowest : (half m : ℕ) → m < 2 * half → (2 * half - 1 - m) % 2 ≡ 1 - m % 2
lowest half m h = omega arith

halved : (half m : ℕ) → m < 2 * half → (2 * half - 1 - m) / 2 ≡ half - 1 - m / 2
halved half m h = omega arith

-- the complement below a power of two has the bits that the number lacks
complement : (n c m : ℕ) → m < 2 ^ n → c < n → bit_at (2 ^ n - 1 - m) c ≡ 1 - bit_at m c
complement zero c m h below = absurd (omega arith)
complement (suc n) zero m h below =
    let double = two-pow-succ n in
    let small : m < 2 * 2 ^ n = omega arith in
    let whole : 2 ^ suc n ≡ 2 * 2 ^ n = omega arith in
    bit_at_lowest (2 ^ suc n - 1 - m) ∙ ap (λ x. (x - 1 - m) % 2) whole ∙ lowest (2 ^ n) m small ∙ ap (λ x. 1 - x) (sym (bit_at_lowest m))
complement (suc n) (suc c) m h below =
    let double = two-pow-succ n in
    let small : m < 2 * 2 ^ n = omega arith in
    let whole : 2 ^ suc n ≡ 2 * 2 ^ n = omega arith in
    let half : m / 2 < 2 ^ n = omega arith in
    bit_at-suc (2 ^ suc n - 1 - m) c ∙ ap (λ x. bit_at ((x - 1 - m) / 2) c) whole ∙ ap (λ x. bit_at x c) (halved (2 ^ n) m small)
    ∙ complement n c (m / 2) half (omega arith) ∙ ap (λ x. 1 - x) (sym (bit_at-suc m c))

one_bit : (b : ℕ) → b < 2 → nat_eq (1 - b) 1 ≡ not (nat_eq b 1)
one_bit zero h = refl
one_bit (suc zero) h = refl
one_bit (suc (suc b)) h = absurd (omega arith)

not_not : (b : Bool) → b ≡ not (not b)
not_not true = refl
not_not false = refl

turned : (x y c : ℤ) → int_le (y -ℤ x) ((pos 0 -ℤ c) -ℤ pos 1) ≡ not (int_le (x -ℤ y) c)
turned x y c = grind (arith, ints)

finite_is : (sort : Option Sort) → is_finite sort ≡ true → (k : ℕ) × (sort ≡ Some (Sort.Fin k))
finite_is (Some (Sort.Fin k)) h = (k, refl)
finite_is (Some Sort.Proc) h = cc
finite_is (Some Sort.Int) h = cc
finite_is None h = cc

constructor_within : (sig : Signature) (n k : ℕ) (v : Val) → IsOfSort sig n (Sort.Fin k) v → constructor_of v < constructors_of sig (Sort.Fin k)
constructor_within sig n k (Con c) h = h
constructor_within sig n k (Proc i) h = absurd h
constructor_within sig n k (Int m) h = absurd h

module _ (p : Protocol) (s : Configuration) (places : List ℕ) (state : IsStateOf p s) (processes : All (λ i. i < process_count s) places) where
  -- the constructor of a finite term is one of its sort's
  pub constructor_below : (t : Term) → place_fits (length places) t ≡ true → is_finite (sort_of (signature_of p) t) ≡ true → constructor_at s places t < constructors_at (signature_of p) t
  constructor_below t fits finite =
      let k = finite_is (sort_of (signature_of p) t) finite in
      subst (λ o. constructor_at s places t < option_map_or (constructors_of (signature_of p)) o 0) (sym k.1)
      (constructor_within (signature_of p) (process_count s) k.0 (term_value s places t) (value_of_sort p s state places t (Sort.Fin k.0) processes fits k.1))

  pub negated_is : (lit : Lit) → IsTrue (literal_fits (signature_of p) (length places) lit) → is_true s places (negated (signature_of p) lit) ≡ not (is_true s places lit)
  negated_is (FinIn t mask) fits =
      let sorted = is_finite (sort_of (signature_of p) t) in
      let placed = place_fits (length places) t in
      let front = and_left (sorted && placed) (nat_lt mask (2 ^ constructors_at (signature_of p) t)) fits in
      let small = ltb-true mask (2 ^ constructors_at (signature_of p) t) (and_right (sorted && placed) (nat_lt mask (2 ^ constructors_at (signature_of p) t)) fits) in
      let below = constructor_below t (and_right sorted placed front) (and_left sorted placed front) in
      ap (λ b. nat_eq b 1) (complement (constructors_at (signature_of p) t) (constructor_at s places t) mask small below)
      ∙ one_bit (bit_at mask (constructor_at s places t)) (bit_at-lt mask (constructor_at s places t))
  negated_is (FinEq a b) fits = refl
  negated_is (FinNe a b) fits = not_not (constructor_at s places a == constructor_at s places b)
  negated_is (ProcEq a b) fits = refl
  negated_is (ProcNe a b) fits = not_not _
  negated_is (Diff a b bound) fits = turned (integer_at s places a) (integer_at s places b) bound
