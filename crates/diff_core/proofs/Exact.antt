-- A closed table gives solutions: for any weights w of the nodes, the least of w x + e i x over the nodes x with a
-- way to i, and of w i, satisfies all constraints. Weights that are 0 at one node and large elsewhere make an
-- entry tight, and show that nothing is entailed where there is no entry.
use Rattle.std.proofs.Common.{◌≡◌, ℕ, ◌<◌, ◌*◌, true, false, cond, zero, suc, ℤ, pos, ◌+ℤ◌, ◌-ℤ◌, ◌≤ℤ◌, ◌<ℤ◌, List, [], ◌∷◌, ◌++◌, length, refl, arith, ◌⊎◌, inl, inr, eqb, subst, sym}
use Rattle.std.proofs.lemmas.Int.{ints, by_lt_z}
use Rattle.std.proofs.lemmas.Bool.{eq-eqb}
use Rattle.std.proofs.lemmas.Bool.Decides.{eqb_tells}
use Rattle.diff_core.specs.Constraints.{constraint_at, IsPath, Solves, HasSolution, Entails, IsLeastSum}
use Rattle.diff_core.specs.Closure.{IsClosure}
use Rattle.diff_core.specs.declared.constraint.Constraint.{Constraint}
use Rattle.diff_core.specs.Closed.{Closed}
use Rattle.diff_core.proofs.Closed.{Small, near_small}
use Rattle.diff_core.proofs.Grown.{closure_covers}
use Rattle.diff_core.proofs.Paths.{path_join, path_one, path_holds, path_ends}

-- s is the least of w i, and of w x + e i x over the first n nodes with a bound there
pub record IsLow (far : ℤ) (e : ℕ → ℕ → ℤ) (w : ℕ → ℤ) (n i : ℕ) (s : ℤ) : Type 0 where
  pub reached : (s ≡ w i) ⊎ ((x : ℕ) × (x < n) × (e i x <ℤ far) × (s ≡ w x +ℤ e i x))
  pub own : s ≤ℤ w i
  pub least : (x : ℕ) → x < n → e i x <ℤ far → s ≤ℤ (w x +ℤ e i x)

-- one more node
more_low : (far : ℤ) (e : ℕ → ℕ → ℤ) (w : ℕ → ℤ) (n i : ℕ) (s t : ℤ) → IsLow far e w n i s → t ≤ℤ s → (e i n <ℤ far → t ≤ℤ (w n +ℤ e i n)) →
    (t ≡ s) ⊎ ((e i n <ℤ far) × (t ≡ w n +ℤ e i n)) → IsLow far e w (suc n) i t
more_low far e w n i s t was below here kind = record { reached = reached; own = omega (arith, ints, was.own, below); least = least }
  where
    reached : (t ≡ w i) ⊎ ((x : ℕ) × (x < suc n) × (e i x <ℤ far) × (t ≡ w x +ℤ e i x))
    reached = elim kind [
      | inl same ↦ elim was.reached [
        | inl own ↦ inl (omega (arith, ints, same, own))
        | inr (x, x_in, near, sum) ↦ inr (x, omega (arith, x_in), near, omega (arith, ints, same, sum))
      ]
      | inr (near, sum) ↦ inr (n, omega arith, near, sum)
    ]

    least : (x : ℕ) → x < suc n → e i x <ℤ far → t ≤ℤ (w x +ℤ e i x)
    least x x_in near =
        elim (eqb_tells x n) [
          | inl h ↦ subst (λ (y : ℕ). e i y <ℤ far → t ≤ℤ (w y +ℤ e i y)) (sym h.1) here near
          | inr h ↦ let before : x < n = omega (arith, x_in, h.1) in omega (arith, ints, below, was.least x before near)
        ]

pub find_low : (far : ℤ) (e : ℕ → ℕ → ℤ) (w : ℕ → ℤ) (n i : ℕ) → (s : ℤ) × IsLow far e w n i s
find_low far e w zero i = (w i, record { reached = inl refl; own = omega (arith, ints); least = λ x x_in near. absurd (omega (arith, x_in)) })
find_low far e w (suc n) i =
    let was : (s : ℤ) × IsLow far e w n i s = find_low far e w n i in
    by_lt_z (e i n) far
    (λ near. by_lt_z (w n +ℤ e i n) was.0
    (λ less. (w n +ℤ e i n, more_low far e w n i was.0 (w n +ℤ e i n) was.1 (omega (arith, ints, less)) (λ h. omega (arith, ints)) (inr (near, refl))))
    (λ more. (was.0, more_low far e w n i was.0 was.0 was.1 (omega (arith, ints)) (λ h. omega (arith, ints, more)) (inl refl))))
    (λ none. (was.0, more_low far e w n i was.0 was.0 was.1 (omega (arith, ints)) (λ h. absurd (omega (arith, ints, h, none))) (inl refl)))

abbrev pub low : ℤ → (ℕ → ℕ → ℤ) → (ℕ → ℤ) → ℕ → ℕ → ℤ
low far e w n i = (find_low far e w n i).0

pub low_is : (far : ℤ) (e : ℕ → ℕ → ℤ) (w : ℕ → ℤ) (n i : ℕ) → IsLow far e w n i (low far e w n i)
low_is far e w n i = (find_low far e w n i).1

-- two bounds in a row give one, by the paths alone
pub closure_joined : (cs : List Constraint) (n : ℕ) (far : ℤ) (e : ℕ → ℕ → ℤ) → IsClosure cs n far e → (i k j : ℕ) → i < n → k < n → j < n → e i k <ℤ far → e k j <ℤ far → (e i j <ℤ far) × (e i j ≤ℤ (e i k +ℤ e k j))
closure_joined cs n far e is i k j i_in k_in j_in p q =
    let first : (ks : List ℕ) × IsPath cs j ks k (e k j) = is.paths k j k_in j_in q in
    let second : (ks : List ℕ) × IsPath cs k ks i (e i k) = is.paths i k i_in k_in p in
    let both : IsPath cs j (first.0 ++ second.0) i (e k j +ℤ e i k) = path_join cs j k i first.0 second.0 (e k j) (e i k) first.1 second.1 in
    (is.near i j i_in j_in (first.0 ++ second.0) (e k j +ℤ e i k) both, omega (arith, ints, is.least i j i_in j_in (first.0 ++ second.0) (e k j +ℤ e i k) both))

-- whatever the weights, the low sums are a solution
pub low_solves : (cs : List Constraint) (n : ℕ) (far : ℤ) (e : ℕ → ℕ → ℤ) → IsClosure cs n far e → (w : ℕ → ℤ) → Solves (low far e w n) cs
low_solves cs n far e is w k k_in =
    let con = constraint_at cs k in
    let a_in : con.left < n = (is.inside k k_in).0 in
    let b_in : con.right < n = (is.inside k k_in).1 in
    let edge : (e con.left con.right ≤ℤ con.bound) × (e con.left con.right <ℤ far) = closure_covers cs n far e is k k_in in
    let at_a : IsLow far e w n con.left (low far e w n con.left) = low_is far e w n con.left in
    let at_b : IsLow far e w n con.right (low far e w n con.right) = low_is far e w n con.right in
    elim at_b.reached [
      | inl own ↦ omega (arith, ints, own, edge.0, at_a.least con.right b_in edge.1)
      | inr (x, x_in, near, sum) ↦
          let both : (e con.left x <ℤ far) × (e con.left x ≤ℤ (e con.left con.right +ℤ e con.right x)) = closure_joined cs n far e is con.left con.right x a_in b_in x_in edge.1 near in
          omega (arith, ints, sum, edge.0, at_a.least x x_in both.0, both.1)
    ]

-- a list with a closure has a solution
pub closure_solved : (cs : List Constraint) (n : ℕ) (far : ℤ) (e : ℕ → ℕ → ℤ) → IsClosure cs n far e → HasSolution cs
closure_solved cs n far e is = (low far e (λ x. pos 0) n, low_solves cs n far e is (λ x. pos 0))

module _ (cs : List Constraint) (n c : ℕ) (far : ℤ) (e : ℕ → ℕ → ℤ) (closed : Closed n c far e) (wide : pos (2 * (c * n)) <ℤ far) (is : IsClosure cs n far e) where
  -- 0 at node j, and elsewhere this much
  abbrev pub weights : ℕ → ℤ → ℕ → ℤ
  weights j much x = cond (eqb x j) (pos 0) much

  pub weight_same : (j : ℕ) (much : ℤ) → weights j much j ≡ pos 0
  weight_same j much = let h : eqb j j ≡ true = eq-eqb j j refl in rw h refl

  pub weight_other : (j : ℕ) (much : ℤ) (x : ℕ) → eqb x j ≡ false → weights j much x ≡ much
  weight_other j much x h = rw h refl

  -- no entailed bound is below an entry
  pub entry_least : (i j : ℕ) → i < n → j < n → e i j <ℤ far → (l : ℤ) → Entails cs i j l → e i j ≤ℤ l
  entry_least i j i_in j_in near l entailed =
      let much : ℤ = pos (2 * (c * n)) in
      let w : ℕ → ℤ = weights j much in
      let at_i : IsLow far e w n i (low far e w n i) = low_is far e w n i in
      let at_j : IsLow far e w n j (low far e w n j) = low_is far e w n j in
      let kept : (low far e w n i -ℤ low far e w n j) ≤ℤ l = entailed (low far e w n) (low_solves cs n far e is w) in
      let zero_j : w j ≡ pos 0 = weight_same j much in
      let small : Small n c (e i j) = near_small n c far e closed i j i_in j_in near in
      let high : e i j ≤ℤ low far e w n i = elim at_i.reached [
        | inl own ↦ elim (eqb_tells i j) [
          | inl h ↦ omega (arith, ints, own, subst (λ (y : ℕ). weights j much y ≡ pos 0) (sym h.1) zero_j, subst (λ (y : ℕ). e i y ≡ pos 0) h.1 (closed.diagonal i i_in))
          | inr h ↦ omega (arith, ints, own, weight_other j much i h.0, small.above)
        ]
        | inr (x, x_in, there, sum) ↦ elim (eqb_tells x j) [
          | inl h ↦ omega (arith, ints, zero_j, subst (λ (y : ℕ). low far e w n i ≡ w y +ℤ e i y) h.1 sum)
          | inr h ↦ omega (arith, ints, sum, weight_other j much x h.0, small.above, (near_small n c far e closed i x i_in x_in there).below)
        ]
      ] in
      omega (arith, ints, kept, high, at_j.own, zero_j)

  -- nothing is entailed where there is no entry
  pub no_entry : (i j : ℕ) → i < n → j < n → far ≤ℤ e i j → (l : ℤ) → Entails cs i j l → ⊥
  no_entry i j i_in j_in none l entailed =
      let much : ℤ = (l +ℤ pos (c * n)) +ℤ pos 1 in
      let w : ℕ → ℤ = weights j much in
      let at_i : IsLow far e w n i (low far e w n i) = low_is far e w n i in
      let at_j : IsLow far e w n j (low far e w n j) = low_is far e w n j in
      let kept : (low far e w n i -ℤ low far e w n j) ≤ℤ l = entailed (low far e w n) (low_solves cs n far e is w) in
      let zero_j : w j ≡ pos 0 = weight_same j much in
      let high : (l +ℤ pos 1) ≤ℤ low far e w n i = elim at_i.reached [
        | inl own ↦ elim (eqb_tells i j) [
          | inl h ↦ absurd (omega (arith, ints, none, wide, subst (λ (y : ℕ). e i y ≡ pos 0) h.1 (closed.diagonal i i_in)))
          | inr h ↦ omega (arith, ints, own, weight_other j much i h.0)
        ]
        | inr (x, x_in, there, sum) ↦ elim (eqb_tells x j) [
          | inl h ↦ absurd (omega (arith, ints, none, subst (λ (y : ℕ). e i y <ℤ far) h.1 there))
          | inr h ↦ omega (arith, ints, sum, weight_other j much x h.0, (near_small n c far e closed i x i_in x_in there).below)
        ]
      ] in
      omega (arith, ints, kept, high, at_j.own, zero_j)

  -- an entry is entailed
  pub entry_entailed : (i j : ℕ) → i < n → j < n → e i j <ℤ far → Entails cs i j (e i j)
  entry_entailed i j i_in j_in near v holds =
      let way : (ks : List ℕ) × IsPath cs j ks i (e i j) = is.paths i j i_in j_in near in
      path_holds cs v holds j i way.0 (e i j) way.1

  -- the least entry of a row is the least sum of a path that ends there
  pub row_least_sum : (y : ℕ) → y < n → (s : ℤ) → (x : ℕ) × (x < n) × (e y x ≡ s) × (s <ℤ far) → ((x : ℕ) → x < n → s ≤ℤ e y x) → IsLeastSum cs y s
  row_least_sum y y_in s (x, x_in, same, near) below = record { reached = reached; least = least }
    where
      reached : (z : ℕ) × (ks : List ℕ) × IsPath cs z ks y s
      reached =
          let there : e y x <ℤ far = omega (arith, ints, same, near) in
          let way : (ks : List ℕ) × IsPath cs x ks y (e y x) = is.paths y x y_in x_in there in
          (x, way.0, subst (λ (z : ℤ). IsPath cs x way.0 y z) same way.1)

      least : (z : ℕ) (ks : List ℕ) (t : ℤ) → IsPath cs z ks y t → s ≤ℤ t
      least z [] t p = omega (arith, ints, below y y_in, closed.diagonal y y_in, p.1)
      least z (k ∷ ks) t p =
          let z_in : z < n = (path_ends cs n is.inside z y k ks t p).0 in
          omega (arith, ints, below z z_in, is.least y z y_in z_in (k ∷ ks) t p)

-- the least sums of paths are a solution
pub least_sums_solve : (cs : List Constraint) (v : ℕ → ℤ) → ((k : ℕ) → k < length cs → IsLeastSum cs (constraint_at cs k).left (v (constraint_at cs k).left) × IsLeastSum cs (constraint_at cs k).right (v (constraint_at cs k).right)) → Solves v cs
least_sums_solve cs v least k k_in =
    let con = constraint_at cs k in
    let at_left : IsLeastSum cs con.left (v con.left) = (least k k_in).0 in
    let at_right : IsLeastSum cs con.right (v con.right) = (least k k_in).1 in
    let way : (x : ℕ) × (ks : List ℕ) × IsPath cs x ks con.right (v con.right) = at_right.reached in
    let longer : IsPath cs way.0 (way.1 ++ k ∷ []) con.left (v con.right +ℤ con.bound) =
    path_join cs way.0 con.right con.left way.1 (k ∷ []) (v con.right) con.bound way.2 (path_one cs k k_in) in
    omega (arith, ints, at_left.least way.0 (way.1 ++ k ∷ []) (v con.right +ℤ con.bound) longer)
