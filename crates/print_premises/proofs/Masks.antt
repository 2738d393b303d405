-- Masks of one constructor, and of all but one: how many bits they have, and which is the lowest.
use Rattle.std.proofs.Common.{◌≡◌, ◌≢◌, ℕ, zero, suc, ◌-◌, ◌/◌, ◌%◌, ◌^◌, ◌<◌, ◌≤◌, inl, inr, refl, sym, ap, ◌∙◌, arith, w64}
use Rattle.std.specs.Prelude.{count_ones}
use Rattle.std.specs.Int.{bit_at, trailing_zeros, trailing_ones}
use Rattle.std.specs.Int.Count.{ones_step}
use Rattle.std.proofs.lemmas.Bool.{cases_lt, cases_eq}
use Rattle.std.proofs.lemmas.Nat.{ones_le_self, zero_from_ones, pow_pos}
use Rattle.std.proofs.lemmas.Nat.Bits.{bit_at_lowest, bit_at-suc, bit_at-pow_same, bit_at-pow_other, bit_at-trailing_zeros, bit_at-trailing_ones}
use Rattle.std.proofs.Math.Pow.{pow_mono, pow-lt}
use Rattle.std.proofs.Math.Nat.{pow-suc}

half_of_power : (c : ℕ) → 2 ^ suc c / 2 ≡ 2 ^ c
half_of_power c = omega (arith, pow-suc 2 c)

even_power : (c : ℕ) → 2 ^ suc c % 2 ≡ 0
even_power c = omega (arith, pow-suc 2 c)

-- the mask of one constructor has one bit
pub ones_of_power : (c : ℕ) → count_ones (2 ^ c) ≡ 1
ones_of_power zero = let none : count_ones 0 ≡ 0 = omega (arith, ones_le_self 0) in omega (arith, ones_step 1, none)
ones_of_power (suc c) =
    let rest : count_ones (2 ^ suc c / 2) ≡ 1 = ap count_ones (half_of_power c) ∙ ones_of_power c in
    omega (arith, ones_step (2 ^ suc c), even_power c, rest)

-- a number with one bit is a power of two
power_within : (d m : ℕ) → m ≤ d → count_ones m ≡ 1 → (k : ℕ) × (m ≡ 2 ^ k)
power_within zero m small one = absurd (omega (arith, ones_le_self m))
power_within (suc d) m small one = by (m % 2) refl (λ even. power_within d (m / 2) (omega (arith, ones_le_self m)) (omega (arith, ones_step m)))
  where
    by : (r : ℕ) → m % 2 ≡ r → (m % 2 ≡ 0 → (k : ℕ) × (m / 2 ≡ 2 ^ k)) → (k : ℕ) × (m ≡ 2 ^ k)
    by zero even half = let found = half even in (suc found.0, omega (arith, found.1, pow-suc 2 found.0))
    by (suc r) odd half =
        let none : count_ones (m / 2) ≡ 0 = omega (arith, ones_step m) in
        let gone : m / 2 ≡ 0 = zero_from_ones (m / 2) none in
        (zero, let e : m ≡ 1 = omega arith in e)

pub one_is_power : (m : ℕ) → count_ones m ≡ 1 → (k : ℕ) × (m ≡ 2 ^ k)
one_is_power m one = power_within m m (omega arith) one

-- and that of its lowest bit
pub one_is_lowest : (m : ℕ) → m < 2 ^ 64 → count_ones m ≡ 1 → m ≡ 2 ^ trailing_zeros w64 m
one_is_lowest m small one =
    let found = one_is_power m one in
    let lowest = bit_at-trailing_zeros w64 m (omega (arith, ones_le_self m)) small in
    elim (cases_eq (trailing_zeros w64 m) found.0) [
      | inl same ↦ found.1 ∙ ap (λ (j : ℕ). 2 ^ j) (sym same)
      | inr other ↦
          let none : bit_at m (trailing_zeros w64 m) ≡ 0 = ap (λ (x : ℕ). bit_at x (trailing_zeros w64 m)) found.1 ∙ bit_at-pow_other found.0 (trailing_zeros w64 m) other in
          absurd (omega (arith, lowest.1))
    ]

-- the bits that a mask of n lacks
lacked_bit : (n mask i : ℕ) → mask < 2 ^ n → i < n → bit_at (2 ^ n - 1 - mask) i ≡ 1 - bit_at mask i
lacked_bit zero mask i small within = absurd (omega arith)
lacked_bit (suc n) mask zero small within = omega (arith, bit_at_lowest (2 ^ suc n - 1 - mask), bit_at_lowest mask, pow-suc 2 n)
lacked_bit (suc n) mask (suc i) small within =
    let half : (2 ^ suc n - 1 - mask) / 2 ≡ 2 ^ n - 1 - mask / 2 = omega (arith, pow-suc 2 n) in
    bit_at-suc (2 ^ suc n - 1 - mask) i ∙ ap (λ (x : ℕ). bit_at x i) half
    ∙ lacked_bit n (mask / 2) i (omega (arith, pow-suc 2 n)) (omega arith) ∙ ap (λ (d : ℕ). 1 - d) (sym (bit_at-suc mask i))

-- of the mask of all constructors but one that one is the lowest that it lacks
pub lowest_lacked : (n c : ℕ) → n ≤ 64 → c < n → trailing_ones w64 (2 ^ n - 1 - 2 ^ c) ≡ c
lowest_lacked n c few below =
    let mask = 2 ^ n - 1 - 2 ^ c in
    let inside : 2 ^ c < 2 ^ n = pow-lt below in
    let word : 2 ^ n ≤ 2 ^ 64 = pow_mono few in
    let lowest = bit_at-trailing_ones w64 mask (omega (arith, pow_pos c)) in
    let at = trailing_ones w64 mask in
    let gone : bit_at mask c ≡ 0 = omega (arith, lacked_bit n (2 ^ c) c inside below, bit_at-pow_same c) in
    elim (cases_lt at c) [
      | inl before ↦
          let other : at ≢ c = λ e. absurd (omega (arith, e)) in
          absurd (omega (arith, lowest.1, lacked_bit n (2 ^ c) at inside (omega arith), bit_at-pow_other c at other))
      | inr after ↦ elim (cases_lt c at) [
        | inl beyond ↦ absurd (omega (arith, lowest.2 c beyond))
        | inr same ↦ let e : at ≡ c = omega arith in e
      ]
    ]
