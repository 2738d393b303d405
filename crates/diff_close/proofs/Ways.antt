-- Paths of literals are paths of their constraints, and the other way round; what holds at terms without a number.
use Rattle.std.proofs.Common.{◌≡◌, ℕ, ◌<◌, ◌≤◌, ◌+◌, Bool, true, false, cond, zero, suc, ℤ, pos, ◌+ℤ◌, ◌-ℤ◌, ◌≤ℤ◌, ◌<ℤ◌, List, [], ◌∷◌, ◌++◌, length, get_or, map, refl, arith, ap, subst, sym, ◌∙◌, inl, inr, ◌⊎◌, ◌≢◌, Contains, All, Option, Some, None, slice_get}
use Rattle.std.proofs.lemmas.Int.{ints}
use Rattle.std.proofs.lemmas.List.Elements.{All-head, All-tail}
use Rattle.std.specs.List.{IsDistinct}
use Rattle.cub_proto.specs.declared.literal.Term.{Term}
use Rattle.cub_proto.specs.declared.literal.Term.TheVariants.{Global, Cell}
use Rattle.cub_proto.specs.declared.literal.ISide.{ISide}
use Rattle.cub_proto.specs.declared.literal.ISide.TheVariants.{Zero, At}
use Rattle.cub_proto.specs.declared.literal.Lit.{Lit}
use Rattle.cub_proto.specs.declared.literal.Lit.TheVariants.{FinIn, FinEq, FinNe, ProcEq, ProcNe, Diff}
use Rattle.diff_core.specs.declared.constraint.Constraint.{Constraint}
use Rattle.diff_core.specs.Constraints as core
use Rattle.diff_core.proofs.Paths.{path_ends}
use Rattle.diff_close.specs.Literals.{side_value, Holds, Solves, HasSolution, Entails, IsLeastBound, IsPath, IsNegativeCycle, IsLeastSum, IsAmong, MentionsOnly}
use Rattle.diff_close.specs.Names.{term_eq, side_eq, index_of, node_of, constraint_of}
use Rattle.diff_close.proofs.Terms.{term_eq_true, term_eq_same, bool_cases, index_in, index_found, contains_index, node_same, node_in, side_of, side_among, node_own}
use Rattle.diff_close.proofs.Translate.{constraint_is, length_is, get_is, got_in, difference_of}

-- an integer literal, or one whose constraint says nothing
kind_of : (names : List Term) (l : Lit) → ((a b : ISide) × (bound : ℤ) × (l ≡ Diff a b bound)) ⊎ (constraint_of names l ≡ record { left = 0; right = 0; bound = pos 0 })
kind_of names (FinIn t mask) = inr refl
kind_of names (FinEq a b) = inr refl
kind_of names (FinNe a b) = inr refl
kind_of names (ProcEq a b) = inr refl
kind_of names (ProcNe a b) = inr refl
kind_of names (Diff a b bound) = inl (a, b, bound, refl)

module _ (names : List Term) (lits : List Lit) (named : All (MentionsOnly names) lits) where
  abbrev constraints : List Constraint
  constraints = map (constraint_of names) lits

  abbrev nothing : Lit
  nothing = FinIn (Global 0) 0

  -- where constraint k is that of this integer literal
  constraint_at_is : (k : ℕ) (a b : ISide) (bound : ℤ) → k < length lits → get_or lits k nothing ≡ Diff a b bound → core.constraint_at constraints k ≡ constraint_of names (Diff a b bound)
  constraint_at_is k a b bound low is = constraint_is names lits k nothing low ∙ ap (constraint_of names) is

  sides_named : (k : ℕ) (a b : ISide) (bound : ℤ) → k < length lits → get_or lits k nothing ≡ Diff a b bound → IsAmong names a × IsAmong names b
  sides_named k a b bound low is = subst (λ (l : Lit). MentionsOnly names l) is (named k nothing low)

  -- the first step of a path of constraints, as one of literals
  step_up : (k : ℕ) (a b' a' : ISide) (bound : ℤ) → k < length lits → get_or lits k nothing ≡ Diff a' b' bound → b' ≡ a → slice_get lits k ≡ Some (Diff a' a bound)
  step_up k a b' a' bound low is same = get_is lits k nothing low ∙ ap Some (is ∙ ap (λ (x : ISide). Diff a' x bound) same)

  pub path_up : (x y : ℕ) (ks : List ℕ) (s : ℤ) (a b : ISide) → IsAmong names a → IsAmong names b → node_of names a ≡ x → node_of names b ≡ y →
      core.IsPath constraints x ks y s → core.AreProper constraints ks → IsPath lits a ks b s
  path_up x y [] s a b a_in b_in a_is b_is (same, none) proper = (node_same names a b a_in b_in (a_is ∙ same ∙ sym b_is), none)
  path_up x y (k ∷ ks) s a b a_in b_in a_is b_is (k_in, right_is, rest) proper =
      let low : k < length lits = omega (arith, k_in, length_is names lits) in
      let own : core.IsProper (constraint_of names (get_or lits k nothing)) = subst (λ (c : Constraint). core.IsProper c) (constraint_is names lits k nothing low) (All-head (λ j. core.IsProper (core.constraint_at constraints j)) k ks proper) in
      let diff : (a' b' : ISide) × (bound : ℤ) × (get_or lits k nothing ≡ Diff a' b' bound) = difference_of names lits named (get_or lits k nothing) own in
      let con_is : core.constraint_at constraints k ≡ constraint_of names (Diff diff.0 diff.1 diff.2) = constraint_at_is k diff.0 diff.1 diff.2 low diff.3 in
      let among : IsAmong names diff.0 × IsAmong names diff.1 = sides_named k diff.0 diff.1 diff.2 low diff.3 in
      let from : diff.1 ≡ a = node_same names diff.1 a among.1 a_in (sym (ap (λ (c : Constraint). c.right) con_is) ∙ right_is ∙ sym a_is) in
      let onward : core.IsPath constraints (node_of names diff.0) ks y (s -ℤ diff.2) = subst (λ (c : Constraint). core.IsPath constraints c.left ks y (s -ℤ c.bound)) con_is rest in (
        diff.0,
        diff.2,
        step_up k a diff.1 diff.0 diff.2 low diff.3 from,
        path_up (node_of names diff.0) y ks (s -ℤ diff.2) diff.0 b among.0 b_in refl b_is onward (All-tail (λ j. core.IsProper (core.constraint_at constraints j)) k ks proper),
      )

  pub cycle_up : (ks : List ℕ) → core.IsNegativeCycle constraints ks → core.AreProper constraints ks → IsNegativeCycle lits ks
  cycle_up [] (x, s, path, negative) proper = absurd (omega (arith, ints, path.1, negative))
  cycle_up (k ∷ ks) (x, s, path, negative) proper =
      let low : k < length lits = omega (arith, path.0, length_is names lits) in
      let own : core.IsProper (constraint_of names (get_or lits k nothing)) = subst (λ (c : Constraint). core.IsProper c) (constraint_is names lits k nothing low) (All-head (λ j. core.IsProper (core.constraint_at constraints j)) k ks proper) in
      let diff : (a' b' : ISide) × (bound : ℤ) × (get_or lits k nothing ≡ Diff a' b' bound) = difference_of names lits named (get_or lits k nothing) own in
      let con_is : core.constraint_at constraints k ≡ constraint_of names (Diff diff.0 diff.1 diff.2) = constraint_at_is k diff.0 diff.1 diff.2 low diff.3 in
      let among : IsAmong names diff.0 × IsAmong names diff.1 = sides_named k diff.0 diff.1 diff.2 low diff.3 in
      let home : node_of names diff.1 ≡ x = sym (ap (λ (c : Constraint). c.right) con_is) ∙ path.1 in
      (diff.1, s, path_up x x (k ∷ ks) s diff.1 diff.1 among.1 among.1 home home path proper, negative)

  -- a path of constraints gives one of literals with the same sum: it leaves out those that say nothing
  pub path_some : (x y : ℕ) (ks : List ℕ) (s : ℤ) (a b : ISide) → IsAmong names a → IsAmong names b → node_of names a ≡ x → node_of names b ≡ y →
      core.IsPath constraints x ks y s → (js : List ℕ) × IsPath lits a js b s
  path_some x y [] s a b a_in b_in a_is b_is (same, none) = ([], (node_same names a b a_in b_in (a_is ∙ same ∙ sym b_is), none))
  path_some x y (k ∷ ks) s a b a_in b_in a_is b_is (k_in, right_is, rest) =
      let low : k < length lits = omega (arith, k_in, length_is names lits) in
      elim (kind_of names (get_or lits k nothing)) [
        | inl (a', b', bound, is) ↦
            let con_is : core.constraint_at constraints k ≡ constraint_of names (Diff a' b' bound) = constraint_at_is k a' b' bound low is in
            let among : IsAmong names a' × IsAmong names b' = sides_named k a' b' bound low is in
            let from : b' ≡ a = node_same names b' a among.1 a_in (sym (ap (λ (c : Constraint). c.right) con_is) ∙ right_is ∙ sym a_is) in
            let onward : core.IsPath constraints (node_of names a') ks y (s -ℤ bound) = subst (λ (c : Constraint). core.IsPath constraints c.left ks y (s -ℤ c.bound)) con_is rest in
            let more : (js : List ℕ) × IsPath lits a' js b (s -ℤ bound) = path_some (node_of names a') y ks (s -ℤ bound) a' b among.0 b_in refl b_is onward in
            (k ∷ more.0, (a', bound, step_up k a b' a' bound low is from, more.1))
        | inr trivial ↦
            let con_is : core.constraint_at constraints k ≡ record { left = 0; right = 0; bound = pos 0 } = constraint_is names lits k nothing low ∙ trivial in
            let onward : core.IsPath constraints 0 ks y (s -ℤ pos 0) = subst (λ (c : Constraint). core.IsPath constraints c.left ks y (s -ℤ c.bound)) con_is rest in
            let here : node_of names a ≡ 0 = a_is ∙ sym right_is ∙ ap (λ (c : Constraint). c.right) con_is in
            let same : s -ℤ pos 0 ≡ s = omega (arith, ints) in
            path_some 0 y ks s a b a_in b_in here b_is (subst (λ (z : ℤ). core.IsPath constraints 0 ks y z) same onward)
      ]

  pub path_down : (a b : ISide) (ks : List ℕ) (s : ℤ) → IsPath lits a ks b s → core.IsPath constraints (node_of names a) ks (node_of names b) s
  path_down a b [] s (same, none) = (ap (node_of names) same, none)
  path_down a b (k ∷ ks) s (a', bound, got, rest) =
      let here : (k < length lits) × (get_or lits k nothing ≡ Diff a' a bound) = got_in lits k nothing (Diff a' a bound) got in
      let con_is : core.constraint_at constraints k ≡ constraint_of names (Diff a' a bound) = constraint_at_is k a' a bound here.0 here.1 in
      let onward : core.IsPath constraints (node_of names a') ks (node_of names b) (s -ℤ bound) = path_down a' b ks (s -ℤ bound) rest in
      (omega (arith, here.0, length_is names lits), ap (λ (c : Constraint). c.right) con_is, subst (λ (c : Constraint). core.IsPath constraints c.left ks (node_of names b) (s -ℤ c.bound)) (sym con_is) onward)

  -- a path that is no empty one ends at a side with a number
  pub path_end : (a b : ISide) (k : ℕ) (ks : List ℕ) (s : ℤ) → IsPath lits a (k ∷ ks) b s → IsAmong names b
  path_end a b k [] s (a', bound, got, (same, none)) =
      let here : (k < length lits) × (get_or lits k nothing ≡ Diff a' a bound) = got_in lits k nothing (Diff a' a bound) got in
      subst (λ (x : ISide). IsAmong names x) same (sides_named k a' a bound here.0 here.1).0
  path_end a b k (j ∷ js) s (a', bound, got, rest) = path_end a' b j js (s -ℤ bound) rest

  -- the least sum at a side with a number
  pub least_up : IsDistinct term_eq names → core.Fits (length names + 1) constraints → (a : ISide) → IsAmong names a → (s : ℤ) → core.IsLeastSum constraints (node_of names a) s → IsLeastSum lits a s
  least_up distinct fits a a_in s least = record { reached = reached least.reached; least = λ x ks t p. least.least (node_of names x) ks t (path_down x a ks t p) }
    where
      reached : (x : ℕ) × (ks : List ℕ) × core.IsPath constraints x ks (node_of names a) s → (x : ISide) × (ks : List ℕ) × IsPath lits x ks a s
      reached (x, [], path) = (a, [], (refl, path.1))
      reached (x, k ∷ ks, path) =
          let x_in : x < length names + 1 = (path_ends constraints (length names + 1) fits x (node_of names a) k ks s path).0 in
          let some : (js : List ℕ) × IsPath lits (side_of names x) js a s = path_some x (node_of names a) (k ∷ ks) s (side_of names x) a (side_among names x x_in) a_in (node_own names distinct x x_in) refl path in
          (side_of names x, some.0, some.1)

  -- no path but the empty one ends at a term without a number
  pub least_other : (t : Term) → (Contains names t → ⊥) → IsLeastSum lits (At t) (pos 0)
  least_other t out = record { reached = (At t, [], (refl, refl)); least = least }
    where
      least : (x : ISide) (ks : List ℕ) (s : ℤ) → IsPath lits x ks (At t) s → pos 0 ≤ℤ s
      least x [] s p = omega (arith, ints, p.1)
      least x (k ∷ ks) s p = absurd (out (path_end x (At t) k ks s p))

-- the bound of a side and itself
pub bound_same : (lits : List Lit) (a : ISide) → HasSolution lits → IsLeastBound lits a a (Some (pos 0))
bound_same lits a (v, solves) = (λ u kept. omega (arith, ints), λ l entailed. omega (arith, ints, entailed v solves))

-- another value for one term
abbrev changed : (Term → ℤ) → Term → ℤ → Term → ℤ
changed v t z u = cond (term_eq t u) z (v u)

changed_there : (v : Term → ℤ) (t : Term) (z : ℤ) → changed v t z t ≡ z
changed_there v t z = let on : term_eq t t ≡ true = term_eq_same t in rw on refl

changed_side : (v : Term → ℤ) (t : Term) (z : ℤ) (a : ISide) → (a ≡ At t → ⊥) → side_value (changed v t z) a ≡ side_value v a
changed_side v t z Zero other = refl
changed_side v t z (At u) other =
    elim (bool_cases (term_eq t u)) [
      | inl e ↦ absurd (other (ap At (sym (term_eq_true t u e))))
      | inr e ↦ rw e refl
    ]

changed_holds : (names : List Term) (v : Term → ℤ) (t : Term) (z : ℤ) → (Contains names t → ⊥) → (l : Lit) → MentionsOnly names l → Holds v l → Holds (changed v t z) l
changed_holds names v t z out (FinIn u mask) among holds = tt
changed_holds names v t z out (FinEq a b) among holds = tt
changed_holds names v t z out (FinNe a b) among holds = tt
changed_holds names v t z out (ProcEq a b) among holds = tt
changed_holds names v t z out (ProcNe a b) among holds = tt
changed_holds names v t z out (Diff a b bound) among holds =
    let first : side_value (changed v t z) a ≡ side_value v a = changed_side v t z a (λ e. out (subst (λ (x : ISide). IsAmong names x) e among.0)) in
    let second : side_value (changed v t z) b ≡ side_value v b = changed_side v t z b (λ e. out (subst (λ (x : ISide). IsAmong names x) e among.1)) in
    omega (arith, ints, first, second, holds)

-- nothing is entailed of a term without a number and another side
pub bound_left : (names : List Term) (lits : List Lit) → All (MentionsOnly names) lits → HasSolution lits → (t : Term) (b : ISide) → (Contains names t → ⊥) → (b ≡ At t → ⊥) → IsLeastBound lits (At t) b None
bound_left names lits named (v, solves) t b out other l entailed =
    let z : ℤ = (l +ℤ side_value v b) +ℤ pos 1 in
    let kept : (changed v t z t -ℤ side_value (changed v t z) b) ≤ℤ l = entailed (changed v t z) (λ k d k_in. changed_holds names v t z out (get_or lits k d) (named k d k_in) (solves k d k_in)) in
    omega (arith, ints, kept, changed_there v t z, changed_side v t z b other)

pub bound_right : (names : List Term) (lits : List Lit) → All (MentionsOnly names) lits → HasSolution lits → (a : ISide) (t : Term) → (Contains names t → ⊥) → (a ≡ At t → ⊥) → IsLeastBound lits a (At t) None
bound_right names lits named (v, solves) a t out other l entailed =
    let z : ℤ = (side_value v a -ℤ l) -ℤ pos 1 in
    let kept : (side_value (changed v t z) a -ℤ changed v t z t) ≤ℤ l = entailed (changed v t z) (λ k d k_in. changed_holds names v t z out (get_or lits k d) (named k d k_in) (solves k d k_in)) in
    omega (arith, ints, kept, changed_there v t z, changed_side v t z a other)

pub side_eq_true : (a b : ISide) → side_eq a b ≡ true → a ≡ b
side_eq_true Zero Zero e = refl
side_eq_true Zero (At t) e = absurd (cc)
side_eq_true (At s) Zero e = absurd (cc)
side_eq_true (At s) (At t) e = ap At (term_eq_true s t e)

pub side_eq_same : (a b : ISide) → a ≡ b → side_eq a b ≡ true
side_eq_same Zero b e = subst (λ (x : ISide). side_eq Zero x ≡ true) e refl
side_eq_same (At s) b e = subst (λ (x : ISide). side_eq (At s) x ≡ true) e (term_eq_same s)

-- a side whose node is past all others is a term without a number
pub past_all : (names : List Term) (a : ISide) → length names < node_of names a → (t : Term) × (a ≡ At t) × (Contains names t → ⊥)
past_all names Zero h = absurd (omega (arith, h))
past_all names (At t) h = (t, refl, λ there. omega (arith, h, index_found names t there))

pub within_all : (names : List Term) (a : ISide) → node_of names a ≤ length names → IsAmong names a
within_all names Zero h = tt
within_all names (At t) h = contains_index names t (omega (arith, h))

-- different sides, one of them without a number
pub bound_past_left : (names : List Term) (lits : List Lit) → All (MentionsOnly names) lits → HasSolution lits → (a b : ISide) → side_eq a b ≡ false → length names < node_of names a → IsLeastBound lits a b None
bound_past_left names lits named has a b other past =
    let one : (t : Term) × (a ≡ At t) × (Contains names t → ⊥) = past_all names a past in
    let apart : b ≡ At one.0 → ⊥ = λ e. let on : side_eq a b ≡ true = side_eq_same a b (one.1 ∙ sym e) in cc in
    subst (λ (x : ISide). IsLeastBound lits x b None) (sym one.1) (bound_left names lits named has one.0 b one.2 apart)

pub bound_past_right : (names : List Term) (lits : List Lit) → All (MentionsOnly names) lits → HasSolution lits → (a b : ISide) → side_eq a b ≡ false → length names < node_of names b → IsLeastBound lits a b None
bound_past_right names lits named has a b other past =
    let one : (t : Term) × (b ≡ At t) × (Contains names t → ⊥) = past_all names b past in
    let apart : a ≡ At one.0 → ⊥ = λ e. let on : side_eq a b ≡ true = side_eq_same a b (e ∙ sym one.1) in cc in
    subst (λ (x : ISide). IsLeastBound lits a x None) (sym one.1) (bound_right names lits named has a one.0 one.2 apart)
