-- A few cubes that no longer change, with their summaries.
use Rattle.std.specs.Prelude.{ℕ, ◌<◌, List, [], length}
use Rattle.cub_proto.specs.declared.protocol.Protocol.{Protocol}
use Rattle.cub_cube.specs.declared.cube.Cube.{Cube}
use Rattle.log_form.specs.Links.{cube_at}
use Rattle.subsume.specs.declared.summary.Summary.{Summary}
use Rattle.subsume.specs.Summary.{IsOf, nothing}
use Rattle.cover_index.specs.Asked.{AreSummed, AreMet}

-- the cubes, the summary of each and of all, and how many of the first are known to be met by some state
pub record Sealed : Type 0 where
  pub cubes : List Cube
  pub summaries : List Summary
  pub all : Summary
  pub met : ℕ

-- no cubes
abbrev pub no_segment : Sealed
no_segment = record { cubes = []; summaries = []; all = nothing; met = 0 }

-- each of the cubes is one of those that the summary is of
abbrev pub AreOf : Protocol → List Cube → Summary → Type 0
AreOf p cubes all = (i : ℕ) → i < length cubes → IsOf p (cube_at cubes i) all

-- what is kept beside the cubes is true of them in that protocol
pub record IsSealedFor (p : Protocol) (s : Sealed) : Type 0 where
  pub summed : AreSummed p s.cubes s.summaries
  pub joined : AreOf p s.cubes s.all
  pub first_met : AreMet p s.cubes s.met
