-- When processes for the sides of equalities satisfy literals, and what all such processes have in common.
-- An assignment is a function from sides to processes; literals of other kinds are passed over.
use Rattle.std.specs.Prelude.{◌≡◌, ℕ, ◌<◌, Bool, true, not, ◌==◌, ◌&&◌, nat_lt, List, IsTrue}
use Rattle.std.specs.List.{list_all}
use Rattle.cub_proto.specs.declared.literal.PSide.{PSide}
use Rattle.cub_proto.specs.declared.literal.PSide.TheVariants.{Global, Place}
use Rattle.cub_proto.specs.declared.literal.Lit.{Lit}
use Rattle.cub_proto.specs.declared.literal.Lit.TheVariants.{FinIn, FinEq, FinNe, ProcEq, ProcNe, Diff}

-- the side is a global below 64 or a place below the width
abbrev pub side_fits : ℕ → PSide → Bool
side_fits width (Global g) = nat_lt g 64
side_fits width (Place p) = nat_lt p width

-- both sides of a process literal are
abbrev pub sides_fit : ℕ → Lit → Bool
sides_fit width (FinIn t mask) = true
sides_fit width (FinEq a b) = true
sides_fit width (FinNe a b) = true
sides_fit width (ProcEq a b) = side_fits width a && side_fits width b
sides_fit width (ProcNe a b) = side_fits width a && side_fits width b
sides_fit width (Diff a b bound) = true

-- the process literal is true of the processes
abbrev pub is_true : (PSide → ℕ) → Lit → Bool
is_true v (FinIn t mask) = true
is_true v (FinEq a b) = true
is_true v (FinNe a b) = true
is_true v (ProcEq a b) = v a == v b
is_true v (ProcNe a b) = not (v a == v b)
is_true v (Diff a b bound) = true

-- the places below the width have distinct processes, and each literal is true
pub record Solves (width : ℕ) (lits : List Lit) (v : PSide → ℕ) : Type 0 where
  pub apart : (p q : ℕ) → p < width → q < width → v (Place p) ≡ v (Place q) → p ≡ q
  pub holds : IsTrue (list_all (is_true v) lits)

-- some processes do
abbrev pub HasSolution : ℕ → List Lit → Type 0
HasSolution width lits = (v : PSide → ℕ) × Solves width lits v

-- the literals force the two sides to be one process
abbrev pub Forces : ℕ → List Lit → PSide → PSide → Type 0
Forces width lits a b = (v : PSide → ℕ) → Solves width lits v → v a ≡ v b

-- the literals force the two sides to be two processes
abbrev pub ForcesApart : ℕ → List Lit → PSide → PSide → Type 0
ForcesApart width lits a b = (v : PSide → ℕ) → Solves width lits v → v a ≡ v b → ⊥
