-- When constructors for the terms satisfy literals, and which of these solutions is the least.
-- An assignment is a function from terms to constructors; literals of other kinds are passed over.
use Rattle.std.specs.Prelude.{◌≡◌, ℕ, ◌<◌, Bool, true, false, not, ◌==◌, ◌&&◌, ◌||◌, nat_lt, List, IsTrue}
use Rattle.std.specs.List.{list_all, list_any}
use Rattle.cub_proto.specs.declared.literal.Term.{Term}
use Rattle.cub_proto.specs.declared.literal.Term.TheVariants.{Global, Cell}
use Rattle.cub_proto.specs.declared.literal.Lit.{Lit}
use Rattle.cub_proto.specs.declared.literal.Lit.TheVariants.{FinIn, FinEq, FinNe, ProcEq, ProcNe, Diff}
use Rattle.cub_proto.specs.Signature.{Signature, constructors_at}
use Rattle.cub_proto.specs.Truth.{has_bit}
use Rattle.cub_proto.specs.Order.{term_cmp}
use Rattle.std.specs.declared.cmp.Ordering.TheVariants.{Less}

-- the term has one of the constructors of its sort
abbrev pub has_constructor : Signature → (Term → ℕ) → Term → Bool
has_constructor sig v t = nat_lt (v t) (constructors_at sig t)

-- the terms of a finite literal have
abbrev pub is_inside : Signature → (Term → ℕ) → Lit → Bool
is_inside sig v (FinIn t mask) = has_constructor sig v t
is_inside sig v (FinEq a b) = has_constructor sig v a && has_constructor sig v b
is_inside sig v (FinNe a b) = has_constructor sig v a && has_constructor sig v b
is_inside sig v (ProcEq a b) = true
is_inside sig v (ProcNe a b) = true
is_inside sig v (Diff a b bound) = true

-- the finite literal is true of the constructors
abbrev pub is_true : (Term → ℕ) → Lit → Bool
is_true v (FinIn t mask) = has_bit mask (v t)
is_true v (FinEq a b) = v a == v b
is_true v (FinNe a b) = not (v a == v b)
is_true v (ProcEq a b) = true
is_true v (ProcNe a b) = true
is_true v (Diff a b bound) = true

-- the mentioned terms have constructors of their sorts, and each literal is true
pub record Solves (sig : Signature) (lits : List Lit) (v : Term → ℕ) : Type 0 where
  pub inside : IsTrue (list_all (is_inside sig v) lits)
  pub holds : IsTrue (list_all (is_true v) lits)

-- some constructors do
abbrev pub HasSolution : Signature → List Lit → Type 0
HasSolution sig lits = (v : Term → ℕ) × Solves sig lits v

-- v is before w in the lexicographic order: it has the lesser constructor at the first term where they differ
pub record IsBefore (v w : Term → ℕ) : Type 0 where
  pub term : Term
  pub same : (t : Term) → term_cmp t term ≡ Less → v t ≡ w t
  pub less : v term < w term

abbrev pub same_term : Term → Term → Bool
same_term (Global g) (Global h) = g == h
same_term (Global g) (Cell a p) = false
same_term (Cell a p) (Global g) = false
same_term (Cell a p) (Cell b q) = a == b && p == q

-- the term is one of a finite literal
abbrev pub mentions : Term → Lit → Bool
mentions t (FinIn s mask) = same_term s t
mentions t (FinEq a b) = same_term a t || same_term b t
mentions t (FinNe a b) = same_term a t || same_term b t
mentions t (ProcEq a b) = false
mentions t (ProcNe a b) = false
mentions t (Diff a b bound) = false

-- the lexicographically least solution in the order of terms; a term that no literal mentions has constructor 0
pub record IsLeastSolution (sig : Signature) (lits : List Lit) (v : Term → ℕ) : Type 0 where
  pub solves : Solves sig lits v
  pub least : (w : Term → ℕ) → Solves sig lits w → IsBefore w v → ⊥
  pub others : (t : Term) → list_any (mentions t) lits ≡ false → v t ≡ 0
