-- Masks as sets of constructors.
use Rattle.std.proofs.Common.{◌≡◌, ◌≢◌, ℕ, ◌+◌, ◌-◌, ◌*◌, ◌^◌, ◌/◌, ◌<◌, ◌≤◌, Bool, true, false, not, ◌&&◌, eqb, ltb, inl, inr, min, refl, sym, ap, ◌∙◌, arith, w64}
use Rattle.std.specs.Int.{bit_at, trailing_zeros, bit_not}
use Rattle.std.specs.Prelude.{bit_and}
use Rattle.std.proofs.lemmas.Bool.{eqb-true, eqb-false, eq-eqb, ne_eqb, ltb-true, ltb-false, lt-ltb, le-ltb, cases_lt, cases_eq, cases_Bool, and_parts, and_from, not-true, not_from_false, not_from_true, true≢false, false≢true, both_ways, false_from_ne_true, and_left, and_right}
use Rattle.std.proofs.lemmas.Nat.{and_le_l}
use Rattle.std.proofs.lemmas.Nat.Bits.{bit_at_and, bit_at-lt, bit_at_ones, bit_at_ones_above, bit_at-zero, bit_at-trailing_zeros, bit_at-pow_same, bit_at-pow_other, bit_at_not, bit_at_above}
use Rattle.std.proofs.Math.Pow.{pow-lt}
use Rattle.cub_proto.specs.Truth.{has_bit}

pub same_bool : (x y : Bool) → (x ≡ true → y ≡ true) → (y ≡ true → x ≡ true) → x ≡ y
same_bool true true f g = refl
same_bool true false f g = sym (f refl)
same_bool false true f g = g refl
same_bool false false f g = refl

pub has_bit_from : (m c : ℕ) → bit_at m c ≡ 1 → has_bit m c ≡ true
has_bit_from m c e = eq-eqb _ _ e

pub bit_from : (m c : ℕ) → has_bit m c ≡ true → bit_at m c ≡ 1
bit_from m c e = eqb-true _ _ e

pub no_bit : (m c : ℕ) → bit_at m c ≡ 0 → has_bit m c ≡ true → ⊥
no_bit m c e h = let one : bit_at m c ≡ 1 = bit_from m c h in omega arith

-- a constructor of a mask of 64 bits is below 64
pub bit_below : (m c : ℕ) → m < 2 ^ 64 → has_bit m c ≡ true → c < 64
bit_below m c fits h = elim (cases_lt c 64) [ inl below ↦ below | inr above ↦ absurd (no_bit m c (bit_at_above m 64 c fits above) h) ]

-- and of a mask below 2 ^ k below k
pub bit_inside : (m k c : ℕ) → m < 2 ^ k → has_bit m c ≡ true → c < k
bit_inside m k c fits h = elim (cases_lt c k) [ inl below ↦ below | inr above ↦ absurd (no_bit m c (bit_at_above m k c fits above) h) ]

pub low_has : (m : ℕ) → 0 < m → m < 2 ^ 64 → has_bit m (trailing_zeros w64 m) ≡ true
low_has m some fits = has_bit_from m _ (bit_at-trailing_zeros w64 m some fits).1

pub low_below : (m : ℕ) → 0 < m → m < 2 ^ 64 → trailing_zeros w64 m < 64
low_below m some fits = (bit_at-trailing_zeros w64 m some fits).0

pub low_least : (m c : ℕ) → m < 2 ^ 64 → has_bit m c ≡ true → trailing_zeros w64 m ≤ c
low_least m c fits h = elim (cases_lt 0 m) [
  | inl some ↦ elim (cases_lt c (trailing_zeros w64 m)) [
    | inl below ↦ absurd (no_bit m c ((bit_at-trailing_zeros w64 m some fits).2 c below) h)
    | inr above ↦ above
  ]
  | inr none ↦ let zero : m ≡ 0 = omega arith in absurd (no_bit 0 c (bit_at-zero c) (rw (← zero) h))
]

-- powers of two are the masks of one constructor
pub pow_has : (k : ℕ) → has_bit (2 ^ k) k ≡ true
pow_has k = has_bit_from (2 ^ k) k (bit_at-pow_same k)

pub pow_only : (k c : ℕ) → has_bit (2 ^ k) c ≡ true → c ≡ k
pow_only k c h = elim (cases_eq c k) [ inl same ↦ same | inr other ↦ absurd (no_bit (2 ^ k) c (bit_at-pow_other k c other) h) ]

-- a mask with a bit is not empty
pub some_bit : (m c : ℕ) → has_bit m c ≡ true → 0 < m
some_bit m c h = elim (cases_lt 0 m) [
  | inl some ↦ some
  | inr none ↦ let zero : m ≡ 0 = omega arith in absurd (no_bit 0 c (bit_at-zero c) (rw (← zero) h))
]

-- the mask of one constructor is that of its least one
pub pow_low : (m c : ℕ) → m < 2 ^ 64 → m ≡ 2 ^ c → m ≡ 2 ^ trailing_zeros w64 m
pow_low m c fits e =
    let here : has_bit m c ≡ true = rw e (pow_has c) in
    let some : 0 < m = some_bit m c here in
    let low : trailing_zeros w64 m ≡ c = pow_only c (trailing_zeros w64 m) (rw (← e) (low_has m some fits)) in
    e ∙ ap (λ (k : ℕ). 2 ^ k) (sym low)

pub both_bits : (a b c : ℕ) → has_bit (bit_and a b) c ≡ (has_bit a c && has_bit b c)
both_bits a b c =
    let value : bit_at (bit_and a b) c ≡ min (bit_at a c) (bit_at b c) = bit_at_and a b c in
    let la : bit_at a c < 2 = bit_at-lt a c in
    let lb : bit_at b c < 2 = bit_at-lt b c in
    same_bool _ _
    (λ h. let one : bit_at (bit_and a b) c ≡ 1 = bit_from _ _ h in
    let ea : bit_at a c ≡ 1 = omega arith in let eb : bit_at b c ≡ 1 = omega arith in
    and_from _ _ (has_bit_from a c ea) (has_bit_from b c eb))
    (λ h. let parts = and_parts (has_bit a c) (has_bit b c) h in
    let ea : bit_at a c ≡ 1 = bit_from a c parts.0 in let eb : bit_at b c ≡ 1 = bit_from b c parts.1 in
    let one : bit_at (bit_and a b) c ≡ 1 = omega arith in
    has_bit_from _ _ one)

-- the complement at 64 bits, inside another mask
pub outside_bits : (m n c : ℕ) → m < 2 ^ 64 → n < 2 ^ 64 → has_bit (bit_and m (bit_not w64 n)) c ≡ (has_bit m c && not (has_bit n c))
outside_bits m n c fm fn = elim (cases_lt c 64) [
  | inl below ↦
      let flip : bit_at (bit_not w64 n) c ≡ 1 - bit_at n c = bit_at_not w64 n c fn below in
      let ln : bit_at n c < 2 = bit_at-lt n c in
      both_bits m (bit_not w64 n) c ∙ ap (λ (x : Bool). has_bit m c && x) (same_bool (has_bit (bit_not w64 n) c) (not (has_bit n c))
      (λ h. let one : bit_at (bit_not w64 n) c ≡ 1 = bit_from _ _ h in not_from_false _ (ne_eqb _ _ (λ e. omega arith)))
      (λ h. let zero : bit_at n c ≡ 1 → ⊥ = eqb-false _ _ (not-true _ h) in
      let one : bit_at (bit_not w64 n) c ≡ 1 = omega arith in has_bit_from _ _ one))
  | inr above ↦
      let none : has_bit m c ≡ false = false_from_ne_true _ (no_bit m c (bit_at_above m 64 c fm above)) in
      both_bits m (bit_not w64 n) c ∙ and_left _ _ none ∙ sym (and_left _ _ none)
]

-- the mask of the first constructors
pub first_bits : (count c : ℕ) → has_bit (2 ^ count - 1) c ≡ ltb c count
first_bits count c = elim (cases_lt c count) [
  | inl below ↦ has_bit_from _ _ (bit_at_ones count c below) ∙ sym (lt-ltb _ _ below)
  | inr above ↦ false_from_ne_true _ (no_bit _ _ (bit_at_ones_above count c above)) ∙ sym (le-ltb _ _ above)
]

-- without the constructor of a mask that has one alone
pub apart_single : (m other c : ℕ) → m < 2 ^ 64 → other < 2 ^ 64 → other ≡ 2 ^ trailing_zeros w64 other
    → has_bit (bit_and m (bit_not w64 other)) c ≡ (has_bit m c && not (eqb other (2 ^ c)))
apart_single m other c fm fo single =
    outside_bits m other c fm fo ∙ ap (λ (x : Bool). has_bit m c && not x) (same_bool (has_bit other c) (eqb other (2 ^ c))
    (λ h. let here : has_bit (2 ^ trailing_zeros w64 other) c ≡ true = rw (← single) h in
    let low : c ≡ trailing_zeros w64 other = pow_only (trailing_zeros w64 other) c here in
    eq-eqb _ _ (single ∙ ap (λ (k : ℕ). 2 ^ k) (sym low)))
    (λ h. rw (eqb-true other (2 ^ c) h) (pow_has c)))

pub apart_many : (m other c : ℕ) → other < 2 ^ 64 → (other ≡ 2 ^ trailing_zeros w64 other → ⊥) → has_bit m c ≡ (has_bit m c && not (eqb other (2 ^ c)))
apart_many m other c fo many =
    let differs : not (eqb other (2 ^ c)) ≡ true = not_from_false _ (ne_eqb _ _ (λ e. many (pow_low other c fo e))) in
    same_bool _ _ (λ h. and_from _ _ h differs) (λ h. (and_parts (has_bit m c) (not (eqb other (2 ^ c))) h).0)

pub pow_fits : (k : ℕ) → k < 64 → 2 ^ k < 2 ^ 64
pow_fits k below = pow-lt below

-- without one constructor
pub without_bits : (m k c : ℕ) → m < 2 ^ 64 → k < 64 → has_bit (bit_and m (bit_not w64 (2 ^ k))) c ≡ (has_bit m c && not (eqb c k))
without_bits m k c fm below =
    outside_bits m (2 ^ k) c fm (pow_fits k below) ∙ ap (λ (x : Bool). has_bit m c && not x) (same_bool (has_bit (2 ^ k) c) (eqb c k)
    (λ h. eq-eqb _ _ (pow_only k c h)) (λ h. rw (eqb-true c k h) (pow_has k)))

pub without_less : (m k : ℕ) → m < 2 ^ 64 → has_bit m k ≡ true → bit_and m (bit_not w64 (2 ^ k)) < m
without_less m k fm h =
    let n = bit_and m (bit_not w64 (2 ^ k)) in
    let below : k < 64 = bit_below m k fm h in
    let most : n ≤ m = and_le_l m (bit_not w64 (2 ^ k)) in
    let gone : has_bit n k ≡ false = without_bits m k k fm below ∙ and_right _ _ (not_from_true _ (eq-eqb k k refl)) in
    elim (cases_lt n m) [
      | inl less ↦ less
      | inr more ↦ let same : n ≡ m = omega arith in absurd (both_ways _ gone (rw same h))
    ]
