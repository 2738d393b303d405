-- A list of cubes with summaries of each and of groups of them, and with retired cubes.
use Rattle.std.specs.Prelude.{◌≡◌, ℕ, ◌<◌, List, [], length}
use Rattle.std.proofs.Common.{ap, arith}
use Rattle.cub_proto.specs.declared.protocol.Protocol.{Protocol}
use Rattle.cub_cube.specs.declared.cube.Cube.{Cube}
use Rattle.log_form.specs.Links.{cube_at}
use Rattle.subsume.specs.declared.summary.Summary.{Summary}
use Rattle.subsume.specs.Scanned as scanned
use Rattle.subsume.specs.Summary.{IsSummary}
use Rattle.cover_index.specs.Asked.{summary_at, AreGrouped, AreMet}

-- the cubes; by which later cube each is retired, 0 where by none; the summary of each, of each 64 and of each 4096; and
-- how many of the first cubes are known to be met by some state
pub record Indexed : Type 0 where
  pub cubes : List Cube
  pub retired : List ℕ
  pub summaries : List Summary
  pub groups : List Summary
  pub larger : List Summary
  pub met : ℕ

-- the list without what is kept for speed
abbrev pub plain : Indexed → scanned.Scanned
plain s = record { cubes = s.cubes; retired = s.retired }

-- the list serves a protocol: the plain one does, and what is kept for speed is true of its cubes
pub record IsServing (p : Protocol) (s : Indexed) : Type 0 where
  pub plainly : scanned.IsServing p (plain s)
  pub own : (i : ℕ) → i < length s.cubes → IsSummary p (cube_at s.cubes i) (summary_at s.summaries i)
  pub grouped : AreGrouped p 64 s.cubes s.groups
  pub larger_grouped : AreGrouped p 4096 s.cubes s.larger
  pub first_met : AreMet p s.cubes s.met

-- a list without cubes serves each protocol
pub nothing_serves : (s : Indexed) (p : Protocol) → s.cubes ≡ [] → IsServing p s
nothing_serves s p none = record {
  plainly = scanned.nothing_serves (plain s) p none;
  own = λ i below. absurd (empty i below);
  grouped = λ i below. absurd (empty i below);
  larger_grouped = λ i below. absurd (empty i below);
  first_met = λ i less below. absurd (empty i below);
}
  where
    empty : (i : ℕ) → i < length s.cubes → ⊥
    empty i below = let size : length s.cubes ≡ 0 = ap length none in omega arith
