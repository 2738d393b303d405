-- A table's fields and its value.
use Rattle.std.proofs.Common.{◌≡◌, ℕ, ◌<◌, ◌≤◌, ◌*◌, ℤ, pos, ◌+ℤ◌, ◌-ℤ◌, ◌≤ℤ◌, ◌<ℤ◌, List, ◌++◌, length, take, drop, arith, refl, sym, ◌∙◌}
use Rattle.std.proofs.Math.Seq.{take-append_seam}
use Rattle.std.proofs.lemmas.Int.{ints}
use Rattle.diff_core.specs.Closed.{Closed}
use Rattle.diff_core.specs.Table.{cell, far}
use Rattle.diff_core.specs.Relaxes.{Step}

-- a list that was written as a slice
pub written_back : {A : Type 0} (new items : List A) (len : ℕ) → length new ≡ length items → len ≡ length items → take len (new ++ drop (length new) items) ≡ new
written_back new items len same whole =
    let here : len ≡ length new = whole ∙ sym same in
    rw (here, take-append_seam) refl

-- all bounds of a table together are below `far`
pub wide_enough : (n : ℕ) → n ≤ 105 → pos (2 * (281474976710656 * n)) <ℤ far
wide_enough n few = omega (arith, ints, few)

-- a step that makes no negative cycle
pub step_of : (n : ℕ) (entries : List ℤ) (a b : ℕ) (d : ℤ) → n ≤ 105 → Closed n 281474976710656 far (cell entries) → a < n → b < n → d ≤ℤ pos 281474976710656 → (pos 0 -ℤ d) ≤ℤ pos 281474976710656 →
    (cell entries b a <ℤ far → pos 0 ≤ℤ (cell entries b a +ℤ d)) → Step n 281474976710656 far (cell entries) a b d
step_of n entries a b d few closed a_in b_in at_most at_least acyclic =
    record { closed = closed; wide = wide_enough n few; a_in = a_in; b_in = b_in; at_most = at_most; at_least = at_least; acyclic = acyclic }
