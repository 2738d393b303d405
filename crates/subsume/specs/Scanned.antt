-- A list of cubes, some of which are retired: a later cube of the list covers them.
use Rattle.std.specs.Prelude.{◌≡◌, ℕ, ◌<◌, List, [], length, slice_index, All}
use Rattle.std.proofs.Common.{ap, arith}
use Rattle.cub_proto.specs.declared.protocol.Protocol.{Protocol}
use Rattle.cub_cube.specs.declared.cube.Cube.{Cube}
use Rattle.cub_cube.specs.Cover.{DoesCover}
use Rattle.log_form.specs.Pieces.{IsAskable}
use Rattle.log_form.specs.Links.{cube_at}

-- the cubes, and for each the number of the one that retired it, 0 where none did
pub record Scanned : Type 0 where
  pub cubes : List Cube
  pub retired : List ℕ

-- cube `by` is a later one that covers cube i
pub record IsRetiredBy (p : Protocol) (cubes : List Cube) (i by : ℕ) : Type 0 where
  pub later : i < by
  pub inside : by < length cubes
  pub covers : DoesCover p (cube_at cubes by) (cube_at cubes i)

-- each retired cube is covered by the one that retired it
abbrev pub AreRetired : Protocol → List Cube → List ℕ → Type 0
AreRetired p cubes retired = (i : ℕ) → i < length cubes → 0 < slice_index retired i → IsRetiredBy p cubes i (slice_index retired i)

-- the list serves a protocol: its cubes may be asked about, and what is retired is covered
pub record IsServing (p : Protocol) (s : Scanned) : Type 0 where
  pub askable : All (IsAskable p) s.cubes
  pub covered : AreRetired p s.cubes s.retired

-- a list without cubes serves each protocol
pub nothing_serves : (s : Scanned) (p : Protocol) → s.cubes ≡ [] → IsServing p s
nothing_serves s p none = record {
  askable = λ k d below. absurd (let size : length s.cubes ≡ 0 = ap length none in omega arith);
  covered = λ i below h. absurd (let size : length s.cubes ≡ 0 = ap length none in omega arith);
}
