-- When one cube covers another, and by which renaming.
use Rattle.std.specs.Prelude.{ℕ, Bool, false, ◌&&◌, ◌||◌, ◌==◌, nat_lt, List, [], ◌∷◌, IsTrue, Contains}
use Rattle.cub_proto.specs.declared.protocol.Protocol.{Protocol}
use Rattle.cub_proto.specs.Configuration.{Configuration}
use Rattle.cub_proto.specs.Truth.{all_true}
use Rattle.cub_proto.specs.StateOf.{IsStateOf}
use Rattle.cub_proto.specs.Meets.{Satisfies}
use Rattle.cub_cube.specs.declared.cube.Cube.{Cube}
use Rattle.cub_cube.specs.Rename.{along, IsInjection}

-- the first cube covers the second by an injection of its places: whatever processes of a state of the protocol satisfy
-- the second, those at the composed places make each literal of the first true
pub record Covers (p : Protocol) (d c : Cube) (r : List ℕ) : Type 0 where
  pub injection : IsInjection d.width c.width r
  pub follows : (s : Configuration) (places : List ℕ) → IsStateOf p s → Satisfies s places c.width c.lits
      → IsTrue (all_true s (along r places) d.lits)

-- the first cube covers the second
abbrev pub DoesCover : Protocol → Cube → Cube → Type 0
DoesCover p d c = (r : List ℕ) × Covers p d c r

-- some cube of the list covers the cube
abbrev pub IsCovered : Protocol → List Cube → Cube → Type 0
IsCovered p cubes c = (d : Cube) × Contains cubes d × DoesCover p d c

-- places come before others of the same length: the first that differ decide
abbrev pub precedes : List ℕ → List ℕ → Bool
precedes [] ys = false
precedes (x ∷ xs) [] = false
precedes (x ∷ xs) (y ∷ ys) = nat_lt x y || (x == y && precedes xs ys)

-- the least injection by which the first cube covers the second
pub record CoversLeast (p : Protocol) (d c : Cube) (r : List ℕ) : Type 0 where
  pub covers : Covers p d c r
  pub least : (q : List ℕ) → Covers p d c q → IsTrue (precedes q r) → ⊥
