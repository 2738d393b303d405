-- The closure of a list that grows by one constraint, of the empty list, and what a negative way back refutes.
use Rattle.std.proofs.Common.{◌≡◌, ℕ, ◌<◌, ◌≤◌, ◌+◌, ◌*◌, ℤ, pos, ◌+ℤ◌, ◌-ℤ◌, ◌≤ℤ◌, ◌<ℤ◌, List, [], ◌∷◌, ◌++◌, length, length-append, refl, arith, ◌⊎◌, inl, inr, eqb, subst, sym}
use Rattle.std.proofs.Math.Nat.{mul-le-mul_left}
use Rattle.std.proofs.lemmas.Int.{ints}
use Rattle.std.proofs.lemmas.Bool.{eqb-true, eq-eqb}
use Rattle.std.proofs.lemmas.Bool.Decides.{eqb_tells}
use Rattle.diff_core.specs.Constraints.{constraint_at, IsPath, Fits, HasSolution}
use Rattle.diff_core.specs.Closure.{IsClosure}
use Rattle.diff_core.specs.Table.{IsFresh}
use Rattle.diff_core.specs.declared.constraint.Constraint.{Constraint}
use Rattle.diff_core.specs.Closed.{Closed, Simple, count}
use Rattle.diff_core.proofs.Closed.{Covers, covered_path, count_some, near_joined}
use Rattle.diff_core.specs.Relaxes.{Relaxes, Step}
use Rattle.diff_core.proofs.Relaxed.{lower, past, relaxed_closed}
use Rattle.diff_core.proofs.Paths.{constraint_kept, constraint_next, path_more, path_one, path_join, path_holds}

-- a number of the longer list is one of the first list, or the new constraint's
pub either_number : (cs : List Constraint) (con : Constraint) (k : ℕ) → k < length (cs ++ con ∷ []) → ((k < length cs) × (constraint_at (cs ++ con ∷ []) k ≡ constraint_at cs k)) ⊎ ((k ≡ length cs) × (constraint_at (cs ++ con ∷ []) k ≡ con))
either_number cs con k k_in =
    let size : length (cs ++ con ∷ []) ≡ length cs + 1 = length-append cs (con ∷ []) in
    let cases : (k < length cs) ⊎ (k ≡ length cs) = search (arith, k_in, size) in
    elim cases [
      | inl low ↦ inl (low, constraint_kept cs (con ∷ []) k low)
      | inr last ↦ inr (last, rw last (constraint_next cs con))
    ]

-- the constraints of a closure are entries' bounds
pub closure_covers : (cs : List Constraint) (n : ℕ) (far : ℤ) (e : ℕ → ℕ → ℤ) → IsClosure cs n far e → Covers cs far e
closure_covers cs n far e is k k_in =
    let con = constraint_at cs k in
    let l_in : con.left < n = (is.inside k k_in).0 in
    let r_in : con.right < n = (is.inside k k_in).1 in
    let one : IsPath cs con.right (k ∷ []) con.left con.bound = path_one cs k k_in in
    (is.least con.left con.right l_in r_in (k ∷ []) con.bound one, is.near con.left con.right l_in r_in (k ∷ []) con.bound one)

module _ (n c : ℕ) (far : ℤ) (e f : ℕ → ℕ → ℤ) (cs : List Constraint) (con : Constraint) (step : Step n c far e con.left con.right con.bound) (is : IsClosure cs n far e) where
  abbrev pub all : List Constraint
  all = cs ++ con ∷ []

  pub grown_inside : Fits n all
  grown_inside k k_in =
      elim (either_number cs con k k_in) [
        | inl old ↦ rw old.1 (is.inside k old.0)
        | inr new ↦ rw new.1 (step.a_in, step.b_in)
      ]

  pub grown_covers : Relaxes n far e f con.left con.right con.bound → Covers all far f
  grown_covers relaxes k k_in =
      elim (either_number cs con k k_in) [
        | inl old ↦
            let was : (e (constraint_at cs k).left (constraint_at cs k).right ≤ℤ (constraint_at cs k).bound) × (e (constraint_at cs k).left (constraint_at cs k).right <ℤ far) = closure_covers cs n far e is k old.0 in
            let low : f (constraint_at cs k).left (constraint_at cs k).right ≤ℤ e (constraint_at cs k).left (constraint_at cs k).right =
            lower n c far e f con.left con.right con.bound step relaxes (constraint_at cs k).left (constraint_at cs k).right (is.inside k old.0).0 (is.inside k old.0).1 in
            rw old.1 (omega (arith, ints, low, was.0), omega (arith, ints, low, was.1))
        | inr new ↦
            let a_zero : e con.left con.left ≡ pos 0 = step.closed.diagonal con.left step.a_in in
            let b_zero : e con.right con.right ≡ pos 0 = step.closed.diagonal con.right step.b_in in
            let low : f con.left con.right ≤ℤ (e con.left con.left +ℤ con.bound +ℤ e con.right con.right) =
            past n c far e f con.left con.right con.bound step relaxes con.left con.right step.a_in step.b_in (omega (arith, ints, step.wide, a_zero)) (omega (arith, ints, step.wide, b_zero)) in
            let some : 1 ≤ n = omega (arith, step.a_in) in
            let most : c * 1 ≤ c * n = mul-le-mul_left c some in
            rw new.1 (omega (arith, ints, low, a_zero, b_zero), omega (arith, ints, low, a_zero, b_zero, most, step.at_most, step.wide))
      ]

  pub grown_paths : Relaxes n far e f con.left con.right con.bound → (i j : ℕ) → i < n → j < n → f i j <ℤ far → (ks : List ℕ) × IsPath all j ks i (f i j)
  grown_paths relaxes i j i_in j_in near =
      elim (relaxes i j i_in j_in) [
        | inl kept ↦
            let was : e i j <ℤ far = omega (arith, ints, kept.same, near) in
            let old : (ks : List ℕ) × IsPath cs j ks i (e i j) = is.paths i j i_in j_in was in
            rw kept.same (old.0, path_more cs (con ∷ []) j i old.0 (e i j) old.1)
        | inr led ↦
            let to : (ks : List ℕ) × IsPath cs con.left ks i (e i con.left) = is.paths i con.left i_in step.a_in led.to in
            let from : (ks : List ℕ) × IsPath cs j ks con.right (e con.right j) = is.paths con.right j step.b_in j_in led.from in
            let new : constraint_at all (length cs) ≡ con = constraint_next cs con in
            let here : length cs < length all = omega (arith, length-append cs (con ∷ [])) in
            let one : IsPath all con.right (length cs ∷ []) con.left con.bound = subst (λ (x : Constraint). IsPath all x.right (length cs ∷ []) x.left x.bound) new (path_one all (length cs) here) in
            let first : IsPath all j (from.0 ++ length cs ∷ []) con.left (e con.right j +ℤ con.bound) =
            path_join all j con.right con.left from.0 (length cs ∷ []) (e con.right j) con.bound (path_more cs (con ∷ []) j con.right from.0 (e con.right j) from.1) one in
            let whole : IsPath all j ((from.0 ++ length cs ∷ []) ++ to.0) i ((e con.right j +ℤ con.bound) +ℤ e i con.left) =
            path_join all j con.left i (from.0 ++ length cs ∷ []) to.0 (e con.right j +ℤ con.bound) (e i con.left) first (path_more cs (con ∷ []) con.left i to.0 (e i con.left) to.1) in
            let sum : f i j ≡ (e con.right j +ℤ con.bound) +ℤ e i con.left = omega (arith, ints, led.sum) in
            rw sum ((from.0 ++ length cs ∷ []) ++ to.0, whole)
      ]

  -- the closure of the longer list
  pub grown : Relaxes n far e f con.left con.right con.bound → IsClosure all n far f
  grown relaxes = record {
    inside = grown_inside;
    paths = grown_paths relaxes;
    near = λ i j i_in j_in ks s p. (covered_path all n c far f (relaxed_closed n c far e f con.left con.right con.bound step relaxes) step.wide grown_inside (grown_covers relaxes) j i j_in i_in ks s p).0;
    least = λ i j i_in j_in ks s p. (covered_path all n c far f (relaxed_closed n c far e f con.left con.right con.bound step relaxes) step.wide grown_inside (grown_covers relaxes) j i j_in i_in ks s p).1;
  }

-- a constraint that an entry keeps already
pub implied : (n c : ℕ) (far : ℤ) (e : ℕ → ℕ → ℤ) (cs : List Constraint) (con : Constraint) → Step n c far e con.left con.right con.bound → IsClosure cs n far e →
    e con.left con.right ≤ℤ con.bound → IsClosure (cs ++ con ∷ []) n far e
implied n c far e cs con step is kept = grown n c far e e cs con step is same
  where
    way : (i j : ℕ) → i < n → j < n → e i con.left <ℤ far → e con.right j <ℤ far → e i j ≤ℤ (e i con.left +ℤ con.bound +ℤ e con.right j)
    way i j i_in j_in to from =
        let some : 1 ≤ n = omega (arith, step.a_in) in
        let most : c * 1 ≤ c * n = mul-le-mul_left c some in
        let near : e con.left con.right <ℤ far = omega (arith, ints, kept, most, step.at_most, step.wide) in
        let mid : e i con.right <ℤ far = near_joined n c far e step.closed step.wide i con.left con.right i_in step.a_in step.b_in to near in
        omega (arith, ints, kept, step.closed.joined i con.left con.right i_in step.a_in step.b_in to near, step.closed.joined i con.right j i_in step.b_in j_in mid from)

    same : Relaxes n far e e con.left con.right con.bound
    same i j i_in j_in = inl (record { same = refl; past = λ to from. way i j i_in j_in to from })

-- a way back that makes a negative cycle with the constraint leaves no solution
pub refuted : (n : ℕ) (far : ℤ) (e : ℕ → ℕ → ℤ) (cs : List Constraint) (con : Constraint) → con.left < n → con.right < n → IsClosure cs n far e →
    e con.right con.left <ℤ far → (e con.right con.left +ℤ con.bound) <ℤ pos 0 → HasSolution (cs ++ con ∷ []) → ⊥
refuted n far e cs con a_in b_in is near negative (v, holds) =
    let back : (ks : List ℕ) × IsPath cs con.left ks con.right (e con.right con.left) = is.paths con.right con.left b_in a_in near in
    let old : (v con.right -ℤ v con.left) ≤ℤ e con.right con.left =
    path_holds (cs ++ con ∷ []) v holds con.left con.right back.0 (e con.right con.left) (path_more cs (con ∷ []) con.left con.right back.0 (e con.right con.left) back.1) in
    let new : constraint_at (cs ++ con ∷ []) (length cs) ≡ con = constraint_next cs con in
    let here : length cs < length (cs ++ con ∷ []) = omega (arith, length-append cs (con ∷ [])) in
    let kept : (v con.left -ℤ v con.right) ≤ℤ con.bound = subst (λ (x : Constraint). (v x.left -ℤ v x.right) ≤ℤ x.bound) new (holds (length cs) here) in
    omega (arith, ints, old, kept, negative)

-- in it only an entry of the diagonal is a bound
fresh_same : (n : ℕ) (far : ℤ) (e : ℕ → ℕ → ℤ) → IsFresh n far e → (i j : ℕ) → i < n → j < n → e i j <ℤ far → i ≡ j
fresh_same n far e fresh i j i_in j_in near =
    elim (eqb_tells i j) [ inl h ↦ h.1 | inr h ↦ absurd (omega (arith, ints, near, (fresh i j i_in j_in).1 h.1)) ]

pub fresh_closed : (n c : ℕ) (far : ℤ) (e : ℕ → ℕ → ℤ) → pos 0 <ℤ far → IsFresh n far e → Closed n c far e
fresh_closed n c far e some fresh = record { diagonal = diagonal; joined = joined; simple = simple }
  where
    diagonal : (i : ℕ) → i < n → e i i ≡ pos 0
    diagonal i i_in = (fresh i i i_in i_in).0 refl

    joined : (i k j : ℕ) → i < n → k < n → j < n → e i k <ℤ far → e k j <ℤ far → e i j ≤ℤ (e i k +ℤ e k j)
    joined i k j i_in k_in j_in p q =
        let one : i ≡ k = fresh_same n far e fresh i k i_in k_in p in
        rw one (omega (arith, ints, diagonal k k_in))

    simple : (i j : ℕ) → i < n → j < n → e i j <ℤ far → Simple n c far e i j
    simple i j i_in j_in near =
        let one : i ≡ j = fresh_same n far e fresh i j i_in j_in near in
        let size : 1 ≤ count n (λ x. eqb x j) = count_some n (λ x. eqb x j) j j_in (eq-eqb j j refl) in
        let most : c * 1 ≤ c * count n (λ x. eqb x j) = mul-le-mul_left c size in
        let none : e j j ≡ pos 0 = diagonal j j_in in
        rw one (record {
          visited = λ x. eqb x j;
          between = λ x x_in on. rw (eqb-true x j on) (record { to = omega (arith, ints, none, some); from = omega (arith, ints, none, some); on = omega (arith, ints, none) });
          above = omega (arith, ints, none, most);
          below = omega (arith, ints, none, most);
        })

pub fresh_closure : (n : ℕ) (far : ℤ) (e : ℕ → ℕ → ℤ) → pos 0 <ℤ far → IsFresh n far e → IsClosure [] n far e
fresh_closure n far e some fresh = record { inside = λ k h. absurd (omega (arith, h)); paths = paths; near = near; least = least }
  where
    paths : (i j : ℕ) → i < n → j < n → e i j <ℤ far → (ks : List ℕ) × IsPath [] j ks i (e i j)
    paths i j i_in j_in p =
        let one : i ≡ j = fresh_same n far e fresh i j i_in j_in p in
        ([], (sym one, (fresh i j i_in j_in).0 one))

    zero_at : (i j : ℕ) → i < n → j < n → (ks : List ℕ) (s : ℤ) → IsPath [] j ks i s → (e i j ≡ pos 0) × (s ≡ pos 0)
    zero_at i j i_in j_in [] s p = ((fresh i j i_in j_in).0 (sym p.0), p.1)
    zero_at i j i_in j_in (k ∷ ks) s p = absurd (omega (arith, p.0))

    near : (i j : ℕ) → i < n → j < n → (ks : List ℕ) (s : ℤ) → IsPath [] j ks i s → e i j <ℤ far
    near i j i_in j_in ks s p = omega (arith, ints, some, (zero_at i j i_in j_in ks s p).0)

    least : (i j : ℕ) → i < n → j < n → (ks : List ℕ) (s : ℤ) → IsPath [] j ks i s → e i j ≤ℤ s
    least i j i_in j_in ks s p = omega (arith, ints, (zero_at i j i_in j_in ks s p).0, (zero_at i j i_in j_in ks s p).1)
