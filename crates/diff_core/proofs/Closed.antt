-- A closed table has small entries, and is at most each path's sum once it is at most each constraint.
use Rattle.std.proofs.Common.{◌≡◌, ℕ, ◌<◌, ◌≤◌, ◌+◌, ◌*◌, Bool, true, false, cond, zero, suc, ℤ, pos, ◌+ℤ◌, ◌-ℤ◌, ◌≤ℤ◌, ◌<ℤ◌, List, [], ◌∷◌, length, refl, arith, subst, inl, inr}
use Rattle.std.proofs.Math.Nat.{mul-le-mul_left}
use Rattle.std.proofs.lemmas.Int.{ints}
use Rattle.std.proofs.lemmas.Bool.Decides.{eqb_tells}
use Rattle.diff_core.specs.Closed.{count, Closed}
use Rattle.diff_core.specs.Constraints.{constraint_at, IsPath, Fits}
use Rattle.diff_core.specs.declared.constraint.Constraint.{Constraint}

-- the members of both sets
abbrev pub union : (ℕ → Bool) → (ℕ → Bool) → ℕ → Bool
union s t x = cond (s x) true (t x)

pub count_le : (n : ℕ) (s : ℕ → Bool) → count n s ≤ n
count_le zero s = omega arith
count_le (suc n) s =
    elim (s n) as (λ b. (count n s + cond b 1 0) ≤ suc n) [ true ↦ omega (arith, count_le n s) | false ↦ omega (arith, count_le n s) ]

pub count_some : (n : ℕ) (s : ℕ → Bool) (x : ℕ) → x < n → s x ≡ true → 1 ≤ count n s
count_some zero s x x_in on = absurd (omega (arith, x_in))
count_some (suc n) s x x_in on =
    elim (eqb_tells x n) [
      | inl h ↦ let here : s n ≡ true = subst (λ (y : ℕ). s y ≡ true) h.1 on in rw here (omega arith)
      | inr h ↦ let before : x < n = omega (arith, x_in, h.1) in omega (arith, count_some n s x before on)
    ]

pub count_union : (n : ℕ) (s t : ℕ → Bool) → ((x : ℕ) → x < n → s x ≡ true → t x ≡ true → ⊥) → count n (union s t) ≡ count n s + count n t
count_union zero s t apart = omega arith
count_union (suc n) s t apart =
    let below : count n (union s t) ≡ count n s + count n t = count_union n s t (λ x h. apart x (omega arith)) in
    let here : s n ≡ true → t n ≡ true → ⊥ = apart n (omega arith) in
    counted (s n) (t n) (count n (union s t)) (count n s) (count n t) below here
  where
    counted : (b d : Bool) (u p q : ℕ) → u ≡ p + q → (b ≡ true → d ≡ true → ⊥) → u + cond (cond b true d) 1 0 ≡ (p + cond b 1 0) + (q + cond d 1 0)
    counted true true u p q e h = absurd (h refl refl)
    counted true false u p q e h = omega arith
    counted false true u p q e h = omega arith
    counted false false u p q e h = omega arith

-- an entry that is a bound is small
pub record Small (n c : ℕ) (z : ℤ) : Type 0 where
  pub above : (z +ℤ pos c) ≤ℤ pos (c * n)
  pub below : (pos c -ℤ z) ≤ℤ pos (c * n)

pub near_small : (n c : ℕ) (far : ℤ) (e : ℕ → ℕ → ℤ) → Closed n c far e → (i j : ℕ) → i < n → j < n → e i j <ℤ far → Small n c (e i j)
near_small n c far e closed i j i_in j_in near =
    let one = closed.simple i j i_in j_in near in
    let most : c * count n one.visited ≤ c * n = mul-le-mul_left c (count_le n one.visited) in
    record { above = omega (arith, ints, one.above, most); below = omega (arith, ints, one.below, most) }

-- the sum over a middle node is a bound as well
pub near_joined : (n c : ℕ) (far : ℤ) (e : ℕ → ℕ → ℤ) → Closed n c far e → pos (2 * (c * n)) <ℤ far → (i k j : ℕ) → i < n → k < n → j < n → e i k <ℤ far → e k j <ℤ far → e i j <ℤ far
near_joined n c far e closed wide i k j i_in k_in j_in p q =
    omega (arith, ints, wide, closed.joined i k j i_in k_in j_in p q, (near_small n c far e closed i k i_in k_in p).above, (near_small n c far e closed k j k_in j_in q).above)

-- the entry of each constraint is at most its bound
abbrev pub Covers : List Constraint → ℤ → (ℕ → ℕ → ℤ) → Type 0
Covers cs far e = (k : ℕ) → k < length cs → (e (constraint_at cs k).left (constraint_at cs k).right ≤ℤ (constraint_at cs k).bound) × (e (constraint_at cs k).left (constraint_at cs k).right <ℤ far)

-- then each path's entry is a bound, at most the path's sum
pub covered_path : (cs : List Constraint) (n c : ℕ) (far : ℤ) (e : ℕ → ℕ → ℤ) → Closed n c far e → pos (2 * (c * n)) <ℤ far → Fits n cs → Covers cs far e →
    (x y : ℕ) → x < n → y < n → (ks : List ℕ) (s : ℤ) → IsPath cs x ks y s → (e y x <ℤ far) × (e y x ≤ℤ s)
covered_path cs n c far e closed wide fits covers x y x_in y_in [] s (same, none) =
    let zero_here : e y x ≡ pos 0 = rw same (closed.diagonal y y_in) in
    (omega (arith, ints, wide), omega (arith, ints, none))
covered_path cs n c far e closed wide fits covers x y x_in y_in (k ∷ ks) s (k_in, right_is, rest) =
    let con = constraint_at cs k in
    let l_in : con.left < n = (fits k k_in).0 in
    let more : (e y con.left <ℤ far) × (e y con.left ≤ℤ (s -ℤ con.bound)) = covered_path cs n c far e closed wide fits covers con.left y l_in y_in ks (s -ℤ con.bound) rest in
    let first : (e con.left x ≤ℤ con.bound) × (e con.left x <ℤ far) = rw (← right_is) (covers k k_in) in
    let sum : e y x ≤ℤ (e y con.left +ℤ e con.left x) = closed.joined y con.left x y_in l_in x_in more.0 first.1 in
    (near_joined n c far e closed wide y con.left x y_in l_in x_in more.0 first.1, omega (arith, ints, more.1, first.0, sum))
