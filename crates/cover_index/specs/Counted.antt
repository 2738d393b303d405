-- Counts that rise no faster than a property is met.
use Rattle.std.specs.Prelude.{ℕ, zero, suc, ◌+◌, ◌<◌, ◌≤◌, ◌⊎◌, List}
use Rattle.cub_proto.specs.declared.protocol.Protocol.{Protocol}
use Rattle.cub_cube.specs.declared.cube.Cube.{Cube}
use Rattle.log_form.specs.Links.{cube_at}
use Rattle.subsume.specs.Summary.{IsCandidate}

-- at least so many numbers, from one up to another, have the property
abbrev pub AtLeast : (ℕ → Type 0) → ℕ → ℕ → ℕ → Type 0
AtLeast P from upto zero = Unit {0}
AtLeast P from upto (suc n) = (i : ℕ) × (from ≤ i) × (i < upto) × P i × AtLeast P (i + 1) upto n

-- the count stayed, or rose by one, and then the fact holds
abbrev pub RisesIf : Type 0 → ℕ → ℕ → Type 0
RisesIf P old new = (new ≤ old) ⊎ (P × (new ≤ old + 1))

-- the count rose by at most as many as there are numbers with the property, from one up to another
abbrev pub RisesFor : (ℕ → Type 0) → ℕ → ℕ → ℕ → ℕ → Type 0
RisesFor P from upto old new = (n : ℕ) × AtLeast P from upto n × (new ≤ old + n)

-- the count rose by at most the number of the cubes that are candidates for covering the given one
abbrev pub RisesForCovers : Protocol → List Cube → ℕ → ℕ → Cube → ℕ → ℕ → Type 0
RisesForCovers p cubes from upto c old new = RisesFor (λ i. IsCandidate p (cube_at cubes i) c) from upto old new

-- the count rose by at most the number of the cubes that the given one is a candidate for covering
abbrev pub RisesForUnder : Protocol → List Cube → ℕ → ℕ → Cube → ℕ → ℕ → Type 0
RisesForUnder p cubes from upto c old new = RisesFor (λ i. IsCandidate p c (cube_at cubes i)) from upto old new
