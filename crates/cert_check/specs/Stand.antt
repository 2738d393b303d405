-- Which places a literal mentions.
use Rattle.std.specs.Prelude.{ℕ, ◌+◌, Bool, true, ◌&&◌, ◌==◌, not}
use Rattle.cub_proto.specs.declared.literal.Term.{Term}
use Rattle.cub_proto.specs.declared.literal.PSide.{PSide}
use Rattle.cub_proto.specs.declared.literal.ISide.{ISide}
use Rattle.cub_proto.specs.declared.literal.ISide.TheVariants.{Zero, At}
use Rattle.cub_proto.specs.declared.literal.Lit.{Lit}
use Rattle.cub_proto.specs.declared.literal.Lit.TheVariants.{FinIn, FinEq, FinNe, ProcEq, ProcNe, Diff}
use Rattle.cub_cube.specs.Rename.{is_within}

-- no other place than that one is mentioned
abbrev pub term_stands : ℕ → Term → Bool
term_stands k (Term.Global g) = true
term_stands k (Term.Cell a p) = p == k

abbrev pub process_side_stands : ℕ → PSide → Bool
process_side_stands k (PSide.Global g) = true
process_side_stands k (PSide.Place p) = p == k

abbrev pub integer_side_stands : ℕ → ISide → Bool
integer_side_stands k Zero = true
integer_side_stands k (At t) = term_stands k t

abbrev pub stands : ℕ → Lit → Bool
stands k (FinIn t mask) = term_stands k t
stands k (FinEq a b) = term_stands k a && term_stands k b
stands k (FinNe a b) = term_stands k a && term_stands k b
stands k (ProcEq a b) = process_side_stands k a && process_side_stands k b
stands k (ProcNe a b) = process_side_stands k a && process_side_stands k b
stands k (Diff a b bound) = integer_side_stands k a && integer_side_stands k b

-- the last place that is mentioned is that one
abbrev pub ends_at : ℕ → Lit → Bool
ends_at k lit = is_within (k + 1) lit && not (is_within k lit)

-- it is the only one, or one of two
abbrev pub is_alone : ℕ → Lit → Bool
is_alone k lit = ends_at k lit && stands k lit

abbrev pub is_joint : ℕ → Lit → Bool
is_joint k lit = ends_at k lit && not (stands k lit)
