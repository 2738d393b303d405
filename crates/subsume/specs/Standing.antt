-- The literals on one place alone.
use Rattle.std.specs.Prelude.{◌≡◌, ℕ, Bool, true, ◌&&◌, ◌==◌, List, Contains}
use Rattle.cub_proto.specs.declared.literal.Term.{Term}
use Rattle.cub_proto.specs.declared.literal.PSide.{PSide}
use Rattle.cub_proto.specs.declared.literal.ISide.{ISide}
use Rattle.cub_proto.specs.declared.literal.ISide.TheVariants.{Zero, At}
use Rattle.cub_proto.specs.declared.literal.Lit.{Lit}
use Rattle.cub_proto.specs.declared.literal.Lit.TheVariants.{FinIn, FinEq, FinNe, ProcEq, ProcNe, Diff}
use Rattle.cub_proto.specs.declared.protocol.Protocol.{Protocol}
use Rattle.cub_cube.specs.declared.cube.Cube.{Cube}
use Rattle.cub_cube.specs.Rename.{renamed}
use Rattle.theory_laws.specs.Entailed.{Entails}

-- there is no place but this one
abbrev pub term_only : ℕ → Term → Bool
term_only k (Term.Global g) = true
term_only k (Term.Cell a p) = p == k

abbrev pub process_side_only : ℕ → PSide → Bool
process_side_only k (PSide.Global g) = true
process_side_only k (PSide.Place p) = p == k

abbrev pub integer_side_only : ℕ → ISide → Bool
integer_side_only k Zero = true
integer_side_only k (At t) = term_only k t

abbrev pub mentions_only : ℕ → Lit → Bool
mentions_only k (FinIn t mask) = term_only k t
mentions_only k (FinEq a b) = term_only k a && term_only k b
mentions_only k (FinNe a b) = term_only k a && term_only k b
mentions_only k (ProcEq a b) = process_side_only k a && process_side_only k b
mentions_only k (ProcNe a b) = process_side_only k a && process_side_only k b
mentions_only k (Diff a b bound) = integer_side_only k a && integer_side_only k b

-- the small cube entails the literals that are on that place alone
abbrev pub OwnFollow : Protocol → List Lit → Cube → List ℕ → ℕ → Type 0
OwnFollow p lits small r k =
    (lit : Lit) → Contains lits lit → mentions_only k lit ≡ true → Entails p small.width small.lits (renamed r lit)
