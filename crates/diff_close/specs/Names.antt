-- The numbers of terms: zero is node 0, and the terms of a list are the nodes from 1 on, in its order.
use Rattle.std.specs.Prelude.{ℕ, suc, ◌==◌, Bool, true, false, ◌&&◌, cond, pos, List, [], ◌∷◌}
use Rattle.cub_proto.specs.declared.literal.Term.{Term}
use Rattle.cub_proto.specs.declared.literal.Term.TheVariants.{Global, Cell}
use Rattle.cub_proto.specs.declared.literal.ISide.{ISide}
use Rattle.cub_proto.specs.declared.literal.ISide.TheVariants.{Zero, At}
use Rattle.cub_proto.specs.declared.literal.Lit.{Lit}
use Rattle.cub_proto.specs.declared.literal.Lit.TheVariants.{FinIn, FinEq, FinNe, ProcEq, ProcNe, Diff}
use Rattle.diff_core.specs.declared.constraint.Constraint.{Constraint}

-- whether two terms are one
abbrev pub term_eq : Term → Term → Bool
term_eq (Global g) (Global h) = g == h
term_eq (Global g) (Cell b q) = false
term_eq (Cell a p) (Global h) = false
term_eq (Cell a p) (Cell b q) = (a == b) && (p == q)

-- whether two sides are one
abbrev pub side_eq : ISide → ISide → Bool
side_eq Zero Zero = true
side_eq Zero (At t) = false
side_eq (At s) Zero = false
side_eq (At s) (At t) = term_eq s t

-- the place of the term in the list, or its length
abbrev pub index_of : List Term → Term → ℕ
index_of [] t = 0
index_of (x ∷ xs) t = cond (term_eq x t) 0 (suc (index_of xs t))

-- the node of a side
abbrev pub node_of : List Term → ISide → ℕ
node_of names Zero = 0
node_of names (At t) = suc (index_of names t)

-- the constraint of a literal; one that is no integer literal says nothing
abbrev pub constraint_of : List Term → Lit → Constraint
constraint_of names (FinIn t mask) = record { left = 0; right = 0; bound = pos 0 }
constraint_of names (FinEq a b) = record { left = 0; right = 0; bound = pos 0 }
constraint_of names (FinNe a b) = record { left = 0; right = 0; bound = pos 0 }
constraint_of names (ProcEq a b) = record { left = 0; right = 0; bound = pos 0 }
constraint_of names (ProcNe a b) = record { left = 0; right = 0; bound = pos 0 }
constraint_of names (Diff a b bound) = record { left = node_of names a; right = node_of names b; bound = bound }
