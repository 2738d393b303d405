-- A conjunction without the literals that its other literals entail.
use Rattle.std.specs.Prelude.{◌≡◌, ◌⊎◌, ℕ, zero, suc, List, length, slice_index_or}
use Rattle.std.specs.List.{remove}
use Rattle.cub_proto.specs.declared.literal.Term.TheVariants as Term
use Rattle.cub_proto.specs.declared.literal.Lit.{Lit}
use Rattle.cub_proto.specs.declared.literal.Lit.TheVariants.{FinIn}
use Rattle.cub_proto.specs.declared.protocol.Protocol.{Protocol}
use Rattle.cub_cube.specs.declared.cube.Cube.{Cube}
use Rattle.theory_laws.specs.Entailed.{Entails}

abbrev pub literal_at : List Lit → ℕ → Lit
literal_at lits k = slice_index_or lits k (FinIn (Term.Global 0) 0)

-- all other literals of the list entail the one with that number
abbrev pub IsIdle : Protocol → ℕ → List Lit → ℕ → Type 0
IsIdle p width lits k = Entails p width (remove lits k) (literal_at lits k)

-- The first k literals of the list are looked at, the last of them first. One that all others that are left entail is
-- dropped, and every other one stays.
abbrev pub Drops : Protocol → ℕ → ℕ → List Lit → List Lit → Type 0
Drops p width zero lits simple = simple ≡ lits
Drops p width (suc k) lits simple =
    (IsIdle p width lits k × Drops p width k (remove lits k) simple)
    ⊎ ((IsIdle p width lits k → ⊥) × Drops p width k lits simple)

-- the cube after all of its literals were looked at
pub record IsSimplified (p : Protocol) (c simple : Cube) : Type 0 where
  pub width : simple.width ≡ c.width
  pub lits : Drops p c.width (length c.lits) c.lits simple.lits
