-- The first cube of a list, from one number up to another, that covers a cube, or that a cube covers.
use Rattle.std.specs.Prelude.{ℕ, ◌<◌, ◌≤◌, List, [], Option, Some, None, slice_index_or}
use Rattle.cub_proto.specs.declared.protocol.Protocol.{Protocol}
use Rattle.cub_cube.specs.declared.cube.Cube.{Cube}
use Rattle.cub_cube.specs.Cover.{DoesCover, CoversLeast}

-- a number with the least places
abbrev pub Link : Type 0
Link = ℕ × List ℕ

abbrev pub no_cube : Cube
no_cube = record { width = 0; lits = [] }

abbrev pub cube_at : List Cube → ℕ → Cube
cube_at cubes i = slice_index_or cubes i no_cube

-- the first cube from one number up to another that covers the given one, with the least places; none where there is none
abbrev pub IsFirstCover : Protocol → List Cube → ℕ → ℕ → Cube → Option Link → Type 0
IsFirstCover p cubes from upto c None = (i : ℕ) → from ≤ i → i < upto → DoesCover p (cube_at cubes i) c → ⊥
IsFirstCover p cubes from upto c (Some link) =
    (from ≤ link.0) × (link.0 < upto) × CoversLeast p (cube_at cubes link.0) c link.1
    × ((i : ℕ) → from ≤ i → i < link.0 → DoesCover p (cube_at cubes i) c → ⊥)

-- the first cube from one number up to another that the given one covers, with the least places
abbrev pub IsFirstUnder : Protocol → List Cube → ℕ → ℕ → Cube → Option Link → Type 0
IsFirstUnder p cubes from upto c None = (i : ℕ) → from ≤ i → i < upto → DoesCover p c (cube_at cubes i) → ⊥
IsFirstUnder p cubes from upto c (Some link) =
    (from ≤ link.0) × (link.0 < upto) × CoversLeast p c (cube_at cubes link.0) link.1
    × ((i : ℕ) → from ≤ i → i < link.0 → DoesCover p c (cube_at cubes i) → ⊥)
