-- What is printed of a log with the verdict SAFE.
use Rattle.std.specs.Prelude.{◌≡◌, ◌≢◌, ◌⊎◌, ℕ, ◌≤◌, List, length, Some, None, All}
use Rattle.cub_proto.specs.declared.budget.Budget.{Budget}
use Rattle.cub_proto.specs.declared.cover.CoverLine.{CoverLine}
use Rattle.cub_proto.specs.declared.protocol.Protocol.{Protocol}
use Rattle.cub_cube.specs.declared.cube.Cube.{Cube}
use Rattle.cub_cube.specs.Inductive.{IsInductive}
use Rattle.cub_cube.specs.Meaning.{IsConsistent}
use Rattle.piece_laws.specs.Test.{PassesTest, PassesLines}
use Rattle.log_form.specs.declared.verdicts.LogVerdict.{LogVerdict}
use Rattle.log_form.specs.Log.{LogValue, live_cubes}
use Rattle.log_form.specs.Verdict.{verdict_of}
use Rattle.core_laws.specs.Apart.{AreApart}
use Rattle.cover_lines.specs.Lines.{AreCoverLines}
use Rattle.cert_text.specs.Text.{certificate_text}

-- the cubes prove that the protocol is safe; some state meets each, none covers another, and they are within the budget
pub record ProveSafety (p : Protocol) (budget : Budget) (cubes : List Cube) : Type 0 where
  pub inductive : IsInductive p cubes
  pub passes : PassesTest p cubes
  pub possible : All (λ c. IsConsistent p c.width c.lits) cubes
  pub apart : AreApart p cubes
  pub few : length cubes ≤ budget.cubes
  pub narrow : All (λ c. c.width ≤ budget.width) cubes

-- the text with one line for each obligation: the first cube that covers it, with the least injection
pub record IsLinedText (p : Protocol) (cubes : List Cube) (text : List ℕ) : Type 0 where
  pub lines : List CoverLine
  pub are : AreCoverLines p cubes lines
  pub pass : PassesLines p cubes lines
  pub text_is : text ≡ certificate_text p cubes (Some lines)

-- the text of the certificate, in version 2 or in version 1
abbrev pub IsCertificateText : Protocol → List Cube → ℕ → List ℕ → Type 0
IsCertificateText p cubes format text =
    ((format ≡ 2) × IsLinedText p cubes text) ⊎ ((format ≢ 2) × (text ≡ certificate_text p cubes None))

-- status 0: the certificate of the live cubes
pub record IsSafe (format : ℕ) (log : LogValue) (status : ℕ) (text : List ℕ) : Type 0 where
  pub verdict : verdict_of log ≡ Some LogVerdict.Safe
  pub prove : ProveSafety log.protocol log.budget (live_cubes log.nodes)
  pub status_is : status ≡ 0
  pub text_is : IsCertificateText log.protocol (live_cubes log.nodes) format text
