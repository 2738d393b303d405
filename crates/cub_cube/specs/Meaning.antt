-- What a conjunction says: which states meet it, and when two say the same.
use Rattle.std.specs.Prelude.{◌≡◌, ℕ, List, length}
use Rattle.cub_proto.specs.declared.literal.Lit.{Lit}
use Rattle.cub_proto.specs.declared.protocol.Protocol.{Protocol}
use Rattle.cub_proto.specs.Configuration.{Configuration}
use Rattle.cub_proto.specs.Truth.{all_true}
use Rattle.cub_proto.specs.StateOf.{IsStateOf}
use Rattle.cub_proto.specs.Legal.{AreDistinctAlive}
use Rattle.cub_proto.specs.Meets.{Meets}
use Rattle.cub_cube.specs.Rename.{along}

-- some state of the protocol meets the conjunction
abbrev pub IsConsistent : Protocol → ℕ → List Lit → Type 0
IsConsistent p width lits = (s : Configuration) × IsStateOf p s × Meets s width lits

-- a state of the protocol with distinct alive processes, one for each place
pub record AreAtPlaces (p : Protocol) (s : Configuration) (places : List ℕ) (width : ℕ) : Type 0 where
  pub state : IsStateOf p s
  pub one_each : length places ≡ width
  pub processes : AreDistinctAlive s places

-- the same states and processes satisfy both
abbrev pub SameMeaning : Protocol → ℕ → List Lit → List Lit → Type 0
SameMeaning p width lits others = (s : Configuration) (places : List ℕ) → AreAtPlaces p s places width
    → all_true s places lits ≡ all_true s places others

-- the first is true at the composed places exactly where the second is true at the places
abbrev pub SameMeaningAlong : Protocol → ℕ → List ℕ → List Lit → List Lit → Type 0
SameMeaningAlong p width r lits others = (s : Configuration) (places : List ℕ) → AreAtPlaces p s places width
    → all_true s (along r places) lits ≡ all_true s places others
