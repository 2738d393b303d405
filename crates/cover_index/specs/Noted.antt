-- Groups of 64 cubes of a list, by their numbers: some are noted.
use Rattle.std.specs.Prelude.{ℕ, ◌/◌, ◌==◌, not, List, ◌∷◌, take, filter, Contains}
use Rattle.cub_proto.specs.declared.protocol.Protocol.{Protocol}
use Rattle.cub_cube.specs.declared.cube.Cube.{Cube}
use Rattle.log_form.specs.Links.{cube_at}
use Rattle.subsume.specs.Summary.{IsCandidate}
use Rattle.cover_index.specs.Counted.{RisesFor}

-- that group, and then the first three of the others
abbrev pub in_front : List ℕ → ℕ → List ℕ
in_front groups group = group ∷ take 3 (filter (λ other. not (other == group)) groups)

-- the cube with that number is one of a noted group
abbrev pub IsNoted : List ℕ → ℕ → Type 0
IsNoted groups i = Contains groups (i / 64)

-- the count rose by at most the number of the cubes of noted groups that are candidates for covering the given one
abbrev pub RisesForNoted : Protocol → List Cube → List ℕ → ℕ → ℕ → Cube → ℕ → ℕ → Type 0
RisesForNoted p cubes groups from upto c old new = RisesFor (λ i. IsCandidate p (cube_at cubes i) c × IsNoted groups i) from upto old new

-- the count rose by at most the number of the cubes of other groups that are candidates for covering the given one
abbrev pub RisesForOthers : Protocol → List Cube → List ℕ → ℕ → ℕ → Cube → ℕ → ℕ → Type 0
RisesForOthers p cubes groups from upto c old new = RisesFor (λ i. IsCandidate p (cube_at cubes i) c × (IsNoted groups i → ⊥)) from upto old new
