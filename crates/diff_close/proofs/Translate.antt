-- From literals over terms to constraints over nodes, and back.
use Rattle.std.proofs.Common.{◌≡◌, ℕ, ◌<◌, ◌≤◌, ◌+◌, Bool, true, false, cond, zero, suc, ℤ, pos, ◌+ℤ◌, ◌-ℤ◌, ◌≤ℤ◌, ◌<ℤ◌, List, [], ◌∷◌, ◌++◌, length, get_or, map, refl, arith, ap, subst, sym, ◌∙◌, inl, inr, ◌⊎◌, ◌≢◌, Contains, All, Option, Some, None, slice_get}
use Rattle.std.proofs.lemmas.Int.{ints}
use Rattle.std.specs.List.{IsDistinct}
use Rattle.cub_proto.specs.declared.literal.Term.{Term}
use Rattle.cub_proto.specs.declared.literal.Term.TheVariants.{Global, Cell}
use Rattle.cub_proto.specs.declared.literal.ISide.{ISide}
use Rattle.cub_proto.specs.declared.literal.ISide.TheVariants.{Zero, At}
use Rattle.cub_proto.specs.declared.literal.Lit.{Lit}
use Rattle.cub_proto.specs.declared.literal.Lit.TheVariants.{FinIn, FinEq, FinNe, ProcEq, ProcNe, Diff}
use Rattle.diff_core.specs.declared.constraint.Constraint.{Constraint}
use Rattle.diff_core.specs.Constraints as core
use Rattle.diff_close.specs.Literals.{side_value, Holds, Solves, HasSolution, Entails, IsLeastBound, IsPath, IsNegativeCycle, IsAmong, MentionsOnly}
use Rattle.diff_close.specs.Names.{term_eq, index_of, node_of, constraint_of}
use Rattle.diff_close.proofs.Terms.{index_in, index_found, node_same, node_in, side_of, side_among, node_own, read_any}

-- the constraint of a literal of the list
pub constraint_is : (names : List Term) (lits : List Lit) (k : ℕ) (d : Lit) → k < length lits → core.constraint_at (map (constraint_of names) lits) k ≡ constraint_of names (get_or lits k d)
constraint_is names [] k d h = absurd (omega (arith, h))
constraint_is names (l ∷ ls) zero d h = refl
constraint_is names (l ∷ ls) (suc k) d h = constraint_is names ls k d (omega (arith, h))

pub length_is : (names : List Term) (lits : List Lit) → length (map (constraint_of names) lits) ≡ length lits
length_is names [] = refl
length_is names (l ∷ ls) = ap suc (length_is names ls)

-- what `get` answers
pub get_is : {X : Type 0} (xs : List X) (k : ℕ) (d : X) → k < length xs → slice_get xs k ≡ Some (get_or xs k d)
get_is [] k d h = absurd (omega (arith, h))
get_is (x ∷ xs) zero d h = refl
get_is (x ∷ xs) (suc k) d h = get_is xs k d (omega (arith, h))

pub got_in : {X : Type 0} (xs : List X) (k : ℕ) (d x : X) → slice_get xs k ≡ Some x → (k < length xs) × (get_or xs k d ≡ x)
got_in [] k d x h = absurd (cc)
got_in (y ∷ ys) zero d x h = (omega arith, (cc))
got_in (y ∷ ys) (suc k) d x h = let rest : (k < length ys) × (get_or ys k d ≡ x) = got_in ys k d x h in (omega (arith, rest.0), rest.1)

-- the value of a node where terms have values
abbrev pub node_value : List Term → (Term → ℤ) → ℕ → ℤ
node_value names v zero = pos 0
node_value names v (suc i) = v (get_or names i (Global 0))

pub side_node : (names : List Term) (v : Term → ℤ) (a : ISide) → IsAmong names a → node_value names v (node_of names a) ≡ side_value v a
side_node names v Zero among = refl
side_node names v (At t) among = ap v (index_in names t (Global 0) (index_found names t among))

-- the value of a term where nodes have values: that of zero is 0
abbrev pub term_value : List Term → (ℕ → ℤ) → Term → ℤ
term_value names u t = u (suc (index_of names t)) -ℤ u 0

pub node_side : (names : List Term) (u : ℕ → ℤ) (a : ISide) → side_value (term_value names u) a ≡ u (node_of names a) -ℤ u 0
node_side names u Zero = omega (arith, ints)
node_side names u (At t) = refl

holds_down : (names : List Term) (v : Term → ℤ) (l : Lit) → MentionsOnly names l → Holds v l → (node_value names v (constraint_of names l).left -ℤ node_value names v (constraint_of names l).right) ≤ℤ (constraint_of names l).bound
holds_down names v (FinIn t mask) among holds = omega (arith, ints)
holds_down names v (FinEq a b) among holds = omega (arith, ints)
holds_down names v (FinNe a b) among holds = omega (arith, ints)
holds_down names v (ProcEq a b) among holds = omega (arith, ints)
holds_down names v (ProcNe a b) among holds = omega (arith, ints)
holds_down names v (Diff a b bound) among holds = rw (side_node names v a among.0, side_node names v b among.1) holds

holds_up : (names : List Term) (u : ℕ → ℤ) (l : Lit) → (u (constraint_of names l).left -ℤ u (constraint_of names l).right) ≤ℤ (constraint_of names l).bound → Holds (term_value names u) l
holds_up names u (FinIn t mask) kept = tt
holds_up names u (FinEq a b) kept = tt
holds_up names u (FinNe a b) kept = tt
holds_up names u (ProcEq a b) kept = tt
holds_up names u (ProcNe a b) kept = tt
holds_up names u (Diff a b bound) kept =
    let first : side_value (term_value names u) a ≡ u (node_of names a) -ℤ u 0 = node_side names u a in
    let second : side_value (term_value names u) b ≡ u (node_of names b) -ℤ u 0 = node_side names u b in
    omega (arith, ints, first, second, kept)

module _ (names : List Term) (lits : List Lit) (named : All (MentionsOnly names) lits) where
  abbrev pub constraints : List Constraint
  constraints = map (constraint_of names) lits

  nothing : Lit
  nothing = FinIn (Global 0) 0

  pub solves_down : (v : Term → ℤ) → Solves v lits → core.Solves (node_value names v) constraints
  solves_down v solves k k_in =
      let low : k < length lits = omega (arith, k_in, length_is names lits) in
      let is : core.constraint_at constraints k ≡ constraint_of names (get_or lits k nothing) = constraint_is names lits k nothing low in
      subst (λ (c : Constraint). (node_value names v c.left -ℤ node_value names v c.right) ≤ℤ c.bound) (sym is) (holds_down names v (get_or lits k nothing) (named k nothing low) (solves k nothing low))

  pub solves_up : (u : ℕ → ℤ) → core.Solves u constraints → Solves (term_value names u) lits
  solves_up u solves k d low =
      let is : core.constraint_at constraints k ≡ constraint_of names (get_or lits k d) = constraint_is names lits k d low in
      holds_up names u (get_or lits k d) (subst (λ (c : Constraint). (u c.left -ℤ u c.right) ≤ℤ c.bound) is (solves k (omega (arith, low, length_is names lits))))

  pub solution_up : core.HasSolution constraints → HasSolution lits
  solution_up (u, solves) = (term_value names u, solves_up u solves)

  pub entails_up : (a b : ISide) → IsAmong names a → IsAmong names b → (l : ℤ) → core.Entails constraints (node_of names a) (node_of names b) l → Entails lits a b l
  entails_up a b a_in b_in l entailed v solves =
      let kept : (node_value names v (node_of names a) -ℤ node_value names v (node_of names b)) ≤ℤ l = entailed (node_value names v) (solves_down v solves) in
      let first : node_value names v (node_of names a) ≡ side_value v a = side_node names v a a_in in
      let second : node_value names v (node_of names b) ≡ side_value v b = side_node names v b b_in in
      omega (arith, ints, first, second, kept)

  pub entails_down : (a b : ISide) (l : ℤ) → Entails lits a b l → core.Entails constraints (node_of names a) (node_of names b) l
  entails_down a b l entailed u solves =
      let kept : (side_value (term_value names u) a -ℤ side_value (term_value names u) b) ≤ℤ l = entailed (term_value names u) (solves_up u solves) in
      let first : side_value (term_value names u) a ≡ u (node_of names a) -ℤ u 0 = node_side names u a in
      let second : side_value (term_value names u) b ≡ u (node_of names b) -ℤ u 0 = node_side names u b in
      omega (arith, ints, first, second, kept)

  pub bound_up : (a b : ISide) → IsAmong names a → IsAmong names b → (found : Option ℤ) → core.IsLeastBound constraints (node_of names a) (node_of names b) found → IsLeastBound lits a b found
  bound_up a b a_in b_in None none = λ l entailed. none l (entails_down a b l entailed)
  bound_up a b a_in b_in (Some k) both = (entails_up a b a_in b_in k both.0, λ l entailed. both.1 l (entails_down a b l entailed))

  -- a constraint that is no tautology is that of an integer literal
  pub difference_of : (l : Lit) → core.IsProper (constraint_of names l) → (a b : ISide) × (bound : ℤ) × (l ≡ Diff a b bound)
  difference_of (FinIn t mask) proper = absurd (omega (arith, ints, proper refl))
  difference_of (FinEq a b) proper = absurd (omega (arith, ints, proper refl))
  difference_of (FinNe a b) proper = absurd (omega (arith, ints, proper refl))
  difference_of (ProcEq a b) proper = absurd (omega (arith, ints, proper refl))
  difference_of (ProcNe a b) proper = absurd (omega (arith, ints, proper refl))
  difference_of (Diff a b bound) proper = (a, b, bound, refl)
