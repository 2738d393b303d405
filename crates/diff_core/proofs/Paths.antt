-- Paths of constraints: joining them, keeping them in a longer list, and what they say of a solution.
use Rattle.std.proofs.Common.{◌≡◌, ℕ, ◌<◌, ℤ, pos, ◌+ℤ◌, ◌-ℤ◌, ◌≤ℤ◌, List, [], ◌∷◌, ◌++◌, length, refl, arith, ap, ◌∙◌, length-append}
use Rattle.std.proofs.Math.ListN.{get_or-append}
use Rattle.std.proofs.Math.Seq.{get_or-append_seam}
use Rattle.std.proofs.lemmas.Int.{ints}
use Rattle.diff_core.specs.Constraints.{constraint_at, Solves, IsPath, Fits, IsNegativeCycle, HasSolution}
use Rattle.diff_core.specs.declared.constraint.Constraint.{Constraint}

-- two paths in a row are a path
pub path_join : (cs : List Constraint) (x y z : ℕ) (ks js : List ℕ) (s t : ℤ) → IsPath cs x ks y s → IsPath cs y js z t → IsPath cs x (ks ++ js) z (s +ℤ t)
path_join cs x y z [] js s t (same, none) q =
    let e : s +ℤ t ≡ t = omega (arith, ints) in
    rw (e, same) q
path_join cs x y z (k ∷ ks) js s t (k_in, right_is, rest) q =
    let b = (constraint_at cs k).bound in
    let e : (s -ℤ b) +ℤ t ≡ (s +ℤ t) -ℤ b = omega (arith, ints) in
    let more : IsPath cs (constraint_at cs k).left (ks ++ js) z ((s -ℤ b) +ℤ t) = path_join cs (constraint_at cs k).left y z ks js (s -ℤ b) t rest q in
    (k_in, right_is, rw (← e) more)

-- a solution keeps each path
pub path_holds : (cs : List Constraint) (v : ℕ → ℤ) → Solves v cs → (x y : ℕ) (ks : List ℕ) (s : ℤ) → IsPath cs x ks y s → (v y -ℤ v x) ≤ℤ s
path_holds cs v holds x y [] s (same, none) = rw same (omega (arith, ints, none))
path_holds cs v holds x y (k ∷ ks) s (k_in, right_is, rest) =
    let c = constraint_at cs k in
    let one : (v c.left -ℤ v c.right) ≤ℤ c.bound = holds k k_in in
    let more : (v y -ℤ v c.left) ≤ℤ (s -ℤ c.bound) = path_holds cs v holds c.left y ks (s -ℤ c.bound) rest in
    rw (← right_is) (omega (arith, ints, one, more))

-- a constraint of the first list is that of both
pub constraint_kept : (cs ds : List Constraint) (k : ℕ) → k < length cs → constraint_at (cs ++ ds) k ≡ constraint_at cs k
constraint_kept cs ds k k_in = get_or-append cs ds (record { left = 0; right = 0; bound = pos 0 }) k k_in

-- the constraint behind the first list
pub constraint_next : (cs : List Constraint) (c : Constraint) → constraint_at (cs ++ c ∷ []) (length cs) ≡ c
constraint_next cs c = get_or-append_seam cs c [] (record { left = 0; right = 0; bound = pos 0 })

-- a path of the first constraints is a path of all
pub path_more : (cs ds : List Constraint) (x y : ℕ) (ks : List ℕ) (s : ℤ) → IsPath cs x ks y s → IsPath (cs ++ ds) x ks y s
path_more cs ds x y [] s p = p
path_more cs ds x y (k ∷ ks) s (k_in, right_is, rest) =
    let more : IsPath (cs ++ ds) (constraint_at cs k).left ks y (s -ℤ (constraint_at cs k).bound) = path_more cs ds (constraint_at cs k).left y ks (s -ℤ (constraint_at cs k).bound) rest in
    let here : constraint_at (cs ++ ds) k ≡ constraint_at cs k = constraint_kept cs ds k k_in in
    (omega (arith, length-append cs ds), ap (λ (c : Constraint). c.right) here ∙ right_is, rw here more)

-- the path of one constraint
pub path_one : (cs : List Constraint) (k : ℕ) → k < length cs → IsPath cs (constraint_at cs k).right (k ∷ []) (constraint_at cs k).left (constraint_at cs k).bound
path_one cs k k_in = (k_in, refl, (refl, omega (arith, ints)))

-- a path that is no empty one ends at nodes of constraints
pub path_ends : (cs : List Constraint) (n : ℕ) → Fits n cs → (x y k : ℕ) (ks : List ℕ) (s : ℤ) → IsPath cs x (k ∷ ks) y s → (x < n) × (y < n)
path_ends cs n fits x y k [] s (k_in, right_is, (same, none)) =
    (rw (← right_is) ((fits k k_in).1), rw (← same) ((fits k k_in).0))
path_ends cs n fits x y k (j ∷ js) s (k_in, right_is, rest) =
    (rw (← right_is) ((fits k k_in).1), (path_ends cs n fits (constraint_at cs k).left y j js (s -ℤ (constraint_at cs k).bound) rest).1)

-- a negative cycle leaves no solution
pub cycle_refutes : (cs : List Constraint) (ks : List ℕ) → IsNegativeCycle cs ks → HasSolution cs → ⊥
cycle_refutes cs ks (x, s, path, negative) (v, holds) = omega (arith, ints, path_holds cs v holds x x ks s path, negative)
