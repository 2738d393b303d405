-- One constraint `a - b <= d` more: each entry stays, or falls to the way over that constraint. A closed table
-- stays closed, unless the way back from a to b makes a negative cycle with it.
use Rattle.std.proofs.Common.{◌≡◌, ℕ, ◌<◌, ◌+◌, Bool, true, false, cond, ℤ, pos, ◌+ℤ◌, ◌≤ℤ◌, ◌<ℤ◌, refl, arith, inl, inr}
use Rattle.std.proofs.lemmas.Int.{ints}
use Rattle.diff_core.specs.Relaxes.{Kept, Led, Relaxes, Step}
use Rattle.diff_core.specs.Closed.{count, Between, Simple, Closed}
use Rattle.diff_core.proofs.Closed.{union, count_union, near_small, near_joined}

module _ (n c : ℕ) (far : ℤ) (e f : ℕ → ℕ → ℤ) (a b : ℕ) (d : ℤ) (step : Step n c far e a b d) (relaxes : Relaxes n far e f a b d) where
  -- no entry grows
  pub lower : (i j : ℕ) → i < n → j < n → f i j ≤ℤ e i j
  lower i j i_in j_in = elim (relaxes i j i_in j_in) [ inl kept ↦ omega (arith, ints, kept.same) | inr led ↦ omega (arith, ints, led.less) ]

  -- no entry is more than the way over the constraint
  pub past : (i j : ℕ) → i < n → j < n → e i a <ℤ far → e b j <ℤ far → f i j ≤ℤ (e i a +ℤ d +ℤ e b j)
  past i j i_in j_in p q = elim (relaxes i j i_in j_in) [ inl kept ↦ omega (arith, ints, kept.same, kept.past p q) | inr led ↦ omega (arith, ints, led.sum) ]

  -- over any node, the way from b and the way to a give no less than the constraint takes
  pub back : (x : ℕ) → x < n → e b x <ℤ far → e x a <ℤ far → pos 0 ≤ℤ (e b x +ℤ e x a +ℤ d)
  back x x_in p q =
      omega (arith, ints, step.closed.joined b x a step.b_in x_in step.a_in p q, step.acyclic (near_joined n c far e step.closed step.wide b x a step.b_in x_in step.a_in p q))

  pub way_near : (i j : ℕ) → i < n → j < n → e i a <ℤ far → e b j <ℤ far → (e i a +ℤ d +ℤ e b j) <ℤ far
  way_near i j i_in j_in p q =
      omega (arith, ints, step.wide, step.at_most, (near_small n c far e step.closed i a i_in step.a_in p).above, (near_small n c far e step.closed b j step.b_in j_in q).above)

  pub relaxed_diagonal : (i : ℕ) → i < n → f i i ≡ pos 0
  relaxed_diagonal i i_in =
      elim (relaxes i i i_in i_in) [
        | inl kept ↦ omega (arith, ints, kept.same, step.closed.diagonal i i_in)
        | inr led ↦ absurd (omega (arith, ints, led.sum, led.less, step.closed.diagonal i i_in, back i i_in led.from led.to))
      ]

  joined_kept : (i k j : ℕ) → i < n → k < n → j < n → Kept far e f a b d i k → Kept far e f a b d k j → f i k <ℤ far → f k j <ℤ far → f i j ≤ℤ (f i k +ℤ f k j)
  joined_kept i k j i_in k_in j_in p q p_near q_near =
      let p_was : e i k <ℤ far = omega (arith, ints, p.same, p_near) in
      let q_was : e k j <ℤ far = omega (arith, ints, q.same, q_near) in
      omega (arith, ints, p.same, q.same, lower i j i_in j_in, step.closed.joined i k j i_in k_in j_in p_was q_was)

  joined_first : (i k j : ℕ) → i < n → k < n → j < n → Led far e f a b d i k → Kept far e f a b d k j → f k j <ℤ far → f i j ≤ℤ (f i k +ℤ f k j)
  joined_first i k j i_in k_in j_in p q q_near =
      let q_was : e k j <ℤ far = omega (arith, ints, q.same, q_near) in
      let near : e b j <ℤ far = near_joined n c far e step.closed step.wide b k j step.b_in k_in j_in p.from q_was in
      omega (arith, ints, p.sum, q.same, past i j i_in j_in p.to near, step.closed.joined b k j step.b_in k_in j_in p.from q_was)

  joined_second : (i k j : ℕ) → i < n → k < n → j < n → Kept far e f a b d i k → Led far e f a b d k j → f i k <ℤ far → f i j ≤ℤ (f i k +ℤ f k j)
  joined_second i k j i_in k_in j_in p q p_near =
      let p_was : e i k <ℤ far = omega (arith, ints, p.same, p_near) in
      let near : e i a <ℤ far = near_joined n c far e step.closed step.wide i k a i_in k_in step.a_in p_was q.to in
      omega (arith, ints, q.sum, p.same, past i j i_in j_in near q.from, step.closed.joined i k a i_in k_in step.a_in p_was q.to)

  joined_both : (i k j : ℕ) → i < n → k < n → j < n → Led far e f a b d i k → Led far e f a b d k j → f i j ≤ℤ (f i k +ℤ f k j)
  joined_both i k j i_in k_in j_in p q =
      omega (arith, ints, p.sum, q.sum, past i j i_in j_in p.to q.from, back k k_in p.from q.to)

  pub relaxed_joined : (i k j : ℕ) → i < n → k < n → j < n → f i k <ℤ far → f k j <ℤ far → f i j ≤ℤ (f i k +ℤ f k j)
  relaxed_joined i k j i_in k_in j_in p_near q_near =
      elim (relaxes i k i_in k_in) [
        | inl p ↦ elim (relaxes k j k_in j_in) [ inl q ↦ joined_kept i k j i_in k_in j_in p q p_near q_near | inr q ↦ joined_second i k j i_in k_in j_in p q p_near ]
        | inr p ↦ elim (relaxes k j k_in j_in) [ inl q ↦ joined_first i k j i_in k_in j_in p q q_near | inr q ↦ joined_both i k j i_in k_in j_in p q ]
      ]

  between_kept : (i j x : ℕ) → i < n → j < n → x < n → Kept far e f a b d i j → Between far e i x j → Between far f i x j
  between_kept i j x i_in j_in x_in kept on =
      let low_to : f i x ≤ℤ e i x = lower i x i_in x_in in
      let low_from : f x j ≤ℤ e x j = lower x j x_in j_in in
      record { to = omega (arith, ints, low_to, on.to); from = omega (arith, ints, low_from, on.from); on = omega (arith, ints, low_to, low_from, on.on, kept.same) }

  between_to : (i j x : ℕ) → i < n → j < n → x < n → Led far e f a b d i j → Between far e i x a → Between far f i x j
  between_to i j x i_in j_in x_in led on =
      let low_to : f i x ≤ℤ e i x = lower i x i_in x_in in
      let low_from : f x j ≤ℤ (e x a +ℤ d +ℤ e b j) = past x j x_in j_in on.from led.from in
      record { to = omega (arith, ints, low_to, on.to); from = omega (arith, ints, low_from, way_near x j x_in j_in on.from led.from); on = omega (arith, ints, low_to, low_from, on.on, led.sum) }

  between_from : (i j x : ℕ) → i < n → j < n → x < n → Led far e f a b d i j → Between far e b x j → Between far f i x j
  between_from i j x i_in j_in x_in led on =
      let low_to : f i x ≤ℤ (e i a +ℤ d +ℤ e b x) = past i x i_in x_in led.to on.to in
      let low_from : f x j ≤ℤ e x j = lower x j x_in j_in in
      record { to = omega (arith, ints, low_to, way_near i x i_in x_in led.to on.to); from = omega (arith, ints, low_from, on.from); on = omega (arith, ints, low_to, low_from, on.on, led.sum) }

  -- a node on both halves would give an old way that is as short
  apart : (i j x : ℕ) → i < n → j < n → x < n → Led far e f a b d i j → Between far e i x a → Between far e b x j → ⊥
  apart i j x i_in j_in x_in led p q =
      omega (arith, ints, p.on, q.on, led.sum, led.less, back x x_in q.to p.from, step.closed.joined i x j i_in x_in j_in p.to q.from)

  simple_kept : (i j : ℕ) → i < n → j < n → Kept far e f a b d i j → f i j <ℤ far → Simple n c far f i j
  simple_kept i j i_in j_in kept near =
      let was : e i j <ℤ far = omega (arith, ints, kept.same, near) in
      let old : Simple n c far e i j = step.closed.simple i j i_in j_in was in
      record {
        visited = old.visited;
        between = λ x x_in on. between_kept i j x i_in j_in x_in kept (old.between x x_in on);
        above = omega (arith, ints, old.above, kept.same);
        below = omega (arith, ints, old.below, kept.same);
      }

  simple_led : (i j : ℕ) → i < n → j < n → Led far e f a b d i j → Simple n c far f i j
  simple_led i j i_in j_in led =
      let p : Simple n c far e i a = step.closed.simple i a i_in step.a_in led.to in
      let q : Simple n c far e b j = step.closed.simple b j step.b_in j_in led.from in
      let both : count n (union p.visited q.visited) ≡ count n p.visited + count n q.visited =
      count_union n p.visited q.visited (λ x x_in in_p in_q. apart i j x i_in j_in x_in led (p.between x x_in in_p) (q.between x x_in in_q)) in
      record {
        visited = union p.visited q.visited;
        between = λ x x_in on. either (p.visited x) (q.visited x) (Between far f i x j) on (λ in_p. between_to i j x i_in j_in x_in led (p.between x x_in in_p)) (λ in_q. between_from i j x i_in j_in x_in led (q.between x x_in in_q));
        above = rw both (omega (arith, ints, p.above, q.above, led.sum, step.at_most));
        below = rw both (omega (arith, ints, p.below, q.below, led.sum, step.at_least));
      }
    where
      either : (s t : Bool) (P : Type 0) → cond s true t ≡ true → (s ≡ true → P) → (t ≡ true → P) → P
      either true t P on first second = first refl
      either false t P on first second = second on

  pub relaxed_simple : (i j : ℕ) → i < n → j < n → f i j <ℤ far → Simple n c far f i j
  relaxed_simple i j i_in j_in near =
      elim (relaxes i j i_in j_in) [ inl kept ↦ simple_kept i j i_in j_in kept near | inr led ↦ simple_led i j i_in j_in led ]

  pub relaxed_closed : Closed n c far f
  relaxed_closed = record { diagonal = relaxed_diagonal; joined = relaxed_joined; simple = relaxed_simple }
