-- Injections of places, as far as they go: item p is the place of the small cube for place p of the big one.
use Rattle.std.specs.Prelude.{◌≡◌, ◌≢◌, ℕ, ◌+◌, ◌<◌, ◌≤◌, max, List, length, All, AllPairs, Contains}
use Rattle.cub_proto.specs.declared.literal.Term.{Term}
use Rattle.cub_proto.specs.declared.literal.PSide.{PSide}
use Rattle.cub_proto.specs.declared.literal.ISide.{ISide}
use Rattle.cub_proto.specs.declared.literal.ISide.TheVariants.{Zero, At}
use Rattle.cub_proto.specs.declared.literal.Lit.{Lit}
use Rattle.cub_proto.specs.declared.literal.Lit.TheVariants.{FinIn, FinEq, FinNe, ProcEq, ProcNe, Diff}
use Rattle.cub_proto.specs.declared.protocol.Protocol.{Protocol}
use Rattle.cub_cube.specs.declared.cube.Cube.{Cube}
use Rattle.cub_cube.specs.Rename.{renamed}
use Rattle.theory_laws.specs.Entailed.{Entails}

-- how many places there must be for the literal: the greatest that it mentions, plus one
abbrev pub term_reach : Term → ℕ
term_reach (Term.Global g) = 0
term_reach (Term.Cell a p) = p + 1

abbrev pub process_side_reach : PSide → ℕ
process_side_reach (PSide.Global g) = 0
process_side_reach (PSide.Place p) = p + 1

abbrev pub integer_side_reach : ISide → ℕ
integer_side_reach Zero = 0
integer_side_reach (At t) = term_reach t

abbrev pub reach : Lit → ℕ
reach (FinIn t mask) = term_reach t
reach (FinEq a b) = max (term_reach a) (term_reach b)
reach (FinNe a b) = max (term_reach a) (term_reach b)
reach (ProcEq a b) = max (process_side_reach a) (process_side_reach b)
reach (ProcNe a b) = max (process_side_reach a) (process_side_reach b)
reach (Diff a b bound) = max (integer_side_reach a) (integer_side_reach b)

-- the small cube entails those literals whose last place is the last of the list
abbrev pub LastFollow : Protocol → List Lit → Cube → List ℕ → Type 0
LastFollow p lits small r =
    (lit : Lit) → Contains lits lit → reach lit ≡ length r → Entails p small.width small.lits (renamed r lit)

-- distinct places of the small cube, which entails all literals that have no further places
pub record IsPartial (p : Protocol) (lits : List Lit) (small : Cube) (r : List ℕ) : Type 0 where
  pub within : All (λ q. q < small.width) r
  pub apart : AllPairs (λ x y. x ≢ y) r
  pub follow : (lit : Lit) → Contains lits lit → reach lit ≤ length r → Entails p small.width small.lits (renamed r lit)

-- a place for each place of the big cube
pub record IsWhole (p : Protocol) (big small : Cube) (r : List ℕ) : Type 0 where
  pub one_each : length r ≡ big.width
  pub partial : IsPartial p big.lits small r
