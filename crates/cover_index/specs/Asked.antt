-- What searches know: of the cube that is asked about, and of the cubes that are searched.
use Rattle.std.specs.Prelude.{◌≡◌, ℕ, ◌<◌, ◌≤◌, ◌/◌, Bool, List, length, slice_index_or, All, IsTrue, bit_or}
use Rattle.cub_proto.specs.declared.protocol.Protocol.{Protocol}
use Rattle.cub_cube.specs.declared.cube.Cube.{Cube}
use Rattle.cub_cube.specs.Meaning.{IsConsistent}
use Rattle.theory.specs.Theory.{Theory}
use Rattle.log_form.specs.Pieces.{IsAskable}
use Rattle.log_form.specs.Links.{cube_at}
use Rattle.subsume.specs.declared.summary.Summary.{Summary}
use Rattle.subsume.specs.Ready.{IsReady}
use Rattle.subsume.specs.Summary.{IsSummary, IsOf, filled}

-- the scratch answers for the cube, which has that summary, and it is said rightly whether some state meets it
pub record IsAsked (p : Protocol) (c : Cube) (summary : Summary) (consistent : Bool) (t : Theory) : Type 0 where
  pub ready : IsReady p c consistent t
  pub askable : IsAskable p c
  pub own : IsSummary p c summary
  pub met : IsTrue consistent → IsConsistent p c.width c.lits

-- no marks
abbrev pub no_summary : Summary
no_summary = record { needs = filled 0; offers = filled 0 }

-- a summary of the list, and one without marks past its end
abbrev pub summary_at : List Summary → ℕ → Summary
summary_at summaries i = slice_index_or summaries i no_summary

-- cubes that may be asked about, and the summary of each
pub record AreSummed (p : Protocol) (cubes : List Cube) (summaries : List Summary) : Type 0 where
  pub askable : All (IsAskable p) cubes
  pub one_each : length summaries ≡ length cubes
  pub own : (i : ℕ) → i < length cubes → IsSummary p (cube_at cubes i) (summary_at summaries i)

-- the first of the cubes, so many, may be asked about, and each has its summary
pub record AreSummedTo (p : Protocol) (upto : ℕ) (cubes : List Cube) (summaries : List Summary) : Type 0 where
  pub within : upto ≤ length cubes
  pub enough : upto ≤ length summaries
  pub askable : (i : ℕ) → i < upto → IsAskable p (cube_at cubes i)
  pub own : (i : ℕ) → i < upto → IsSummary p (cube_at cubes i) (summary_at summaries i)

-- the cubes are in groups of that size, and each is one of those that its group's summary is of
abbrev pub AreGrouped : Protocol → ℕ → List Cube → List Summary → Type 0
AreGrouped p size cubes groups = (i : ℕ) → i < length cubes → IsOf p (cube_at cubes i) (summary_at groups (i / size))

-- the first of the cubes, so many, are each met by some state
abbrev pub AreMet : Protocol → List Cube → ℕ → Type 0
AreMet p cubes met = (i : ℕ) → i < met → i < length cubes → let c = cube_at cubes i in IsConsistent p c.width c.lits

-- what was one of the cubes of a summary is one of those of the summary that stands there now
pub record AreKept (old new : List Summary) : Type 0 where
  pub more : length old ≤ length new
  pub kept : (i : ℕ) → i < length old → (p : Protocol) (c : Cube) → IsOf p c (summary_at old i) → IsOf p c (summary_at new i)

-- a cube of the one summary is one of those of the other
abbrev pub Joins : Summary → Summary → Type 0
Joins own summary = (p : Protocol) (c : Cube) → IsOf p c own → IsOf p c summary

-- the words of a summary that are kept apart, for tests that read little: memberships in one constructor and values of
-- integer terms, those that its cubes need and those that they offer
abbrev pub needs_key : Summary → ℕ
needs_key s = bit_or s.needs.constructors s.needs.values

abbrev pub offers_key : Summary → ℕ
offers_key s = bit_or s.offers.constructors s.offers.values
