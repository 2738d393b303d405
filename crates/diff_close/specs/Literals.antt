-- The integer literals of a list: what satisfies them, what they entail, and the paths that they form. Literals of
-- other kinds say nothing here.
use Rattle.std.specs.Prelude.{◌≡◌, ℕ, ◌≤◌, ◌<◌, ℤ, pos, ◌-ℤ◌, ◌≤ℤ◌, ◌<ℤ◌, List, [], ◌∷◌, length, Option, Some, MatchOption, slice_get, All, Contains}
use Rattle.cub_proto.specs.declared.literal.Term.{Term}
use Rattle.cub_proto.specs.declared.literal.ISide.{ISide}
use Rattle.cub_proto.specs.declared.literal.ISide.TheVariants.{Zero, At}
use Rattle.cub_proto.specs.declared.literal.Lit.{Lit}
use Rattle.cub_proto.specs.declared.literal.Lit.TheVariants.{FinIn, FinEq, FinNe, ProcEq, ProcNe, Diff}

-- the value of a side, where each term has an integer
abbrev pub side_value : (Term → ℤ) → ISide → ℤ
side_value v Zero = pos 0
side_value v (At t) = v t

-- the integers satisfy the literal
abbrev pub Holds : (Term → ℤ) → Lit → Type 0
Holds v (FinIn t mask) = Unit {0}
Holds v (FinEq a b) = Unit {0}
Holds v (FinNe a b) = Unit {0}
Holds v (ProcEq a b) = Unit {0}
Holds v (ProcNe a b) = Unit {0}
Holds v (Diff a b bound) = (side_value v a -ℤ side_value v b) ≤ℤ bound

-- they satisfy each literal
abbrev pub Solves : (Term → ℤ) → List Lit → Type 0
Solves v lits = All (Holds v) lits

-- some integers satisfy the literals
abbrev pub HasSolution : List Lit → Type 0
HasSolution lits = (v : Term → ℤ) × Solves v lits

-- all integers that satisfy them have `a - b <= bound`
abbrev pub Entails : List Lit → ISide → ISide → ℤ → Type 0
Entails lits a b bound = (v : Term → ℤ) → Solves v lits → (side_value v a -ℤ side_value v b) ≤ℤ bound

-- the least bound of `a - b` that the literals entail, or None where they entail none
abbrev pub IsLeastBound : List Lit → ISide → ISide → Option ℤ → Type 0
IsLeastBound lits a b found =
    MatchOption found ((l : ℤ) → Entails lits a b l → ⊥) (λ k. Entails lits a b k × ((l : ℤ) → Entails lits a b l → k ≤ℤ l))

-- the literals with these numbers lead, in this order, from side x to side y, and their bounds have this sum:
-- `a - b <= c` leads from b to a
abbrev pub IsPath : List Lit → ISide → List ℕ → ISide → ℤ → Type 0
IsPath lits x [] y s = (x ≡ y) × (s ≡ pos 0)
IsPath lits x (k ∷ ks) y s = (a : ISide) × (c : ℤ) × (slice_get lits k ≡ Some (Diff a x c)) × IsPath lits a ks y (s -ℤ c)

-- they form, in this order, a closed path with a negative sum
abbrev pub IsNegativeCycle : List Lit → List ℕ → Type 0
IsNegativeCycle lits ks = (x : ISide) × (s : ℤ) × IsPath lits x ks x s × (s <ℤ pos 0)

-- the least sum of a path that ends at side y; the empty path has the sum 0
pub record IsLeastSum (lits : List Lit) (y : ISide) (s : ℤ) : Type 0 where
  pub reached : (x : ISide) × (ks : List ℕ) × IsPath lits x ks y s
  pub least : (x : ISide) (ks : List ℕ) (t : ℤ) → IsPath lits x ks y t → s ≤ℤ t

-- the chosen solution at a side: the least sum of a path that ends there, less that of zero
pub record IsChosen (lits : List Lit) (a : ISide) (value : ℤ) : Type 0 where
  pub here : ℤ
  pub zero : ℤ
  pub least_here : IsLeastSum lits a here
  pub least_zero : IsLeastSum lits Zero zero
  pub difference : value ≡ here -ℤ zero

-- the side is zero or one of these terms
abbrev pub IsAmong : List Term → ISide → Type 0
IsAmong terms Zero = Unit {0}
IsAmong terms (At t) = Contains terms t

-- so are both sides of an integer literal
abbrev pub MentionsOnly : List Term → Lit → Type 0
MentionsOnly terms (FinIn t mask) = Unit {0}
MentionsOnly terms (FinEq a b) = Unit {0}
MentionsOnly terms (FinNe a b) = Unit {0}
MentionsOnly terms (ProcEq a b) = Unit {0}
MentionsOnly terms (ProcNe a b) = Unit {0}
MentionsOnly terms (Diff a b bound) = IsAmong terms a × IsAmong terms b

-- the integer literals mention at most so many terms
abbrev pub MentionAtMost : ℕ → List Lit → Type 0
MentionAtMost most lits = (terms : List Term) × (length terms ≤ most) × All (MentionsOnly terms) lits

-- a bound is below 2 ^ 48 in size
abbrev pub HasSmallBound : Lit → Type 0
HasSmallBound (FinIn t mask) = Unit {0}
HasSmallBound (FinEq a b) = Unit {0}
HasSmallBound (FinNe a b) = Unit {0}
HasSmallBound (ProcEq a b) = Unit {0}
HasSmallBound (ProcNe a b) = Unit {0}
HasSmallBound (Diff a b bound) = ((pos 0 -ℤ bound) <ℤ pos 281474976710656) × (bound <ℤ pos 281474976710656)
