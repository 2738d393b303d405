-- What `verify` answers to a protocol and the text of a certificate.
use Rattle.std.specs.Prelude.{◌≡◌, ◌≢◌, ◌⊎◌, ℕ, List, Option, Some, None, Ok, Err}
use Rattle.cub_proto.specs.declared.protocol.Protocol.{Protocol}
use Rattle.cub_proto.specs.declared.cover.CoverLine.{CoverLine}
use Rattle.cub_proto.specs.Meets.{IsSafe}
use Rattle.cub_cube.specs.declared.cube.Cube.{Cube}
use Rattle.cub_cube.specs.Inductive.{IsInductive}
use Rattle.piece_laws.specs.Test.{PassesTest, PassesLines}
use Rattle.cert_text.specs.declared.certificate.Certificate.{Certificate}
use Rattle.cert_text.specs.Text.{certificate_text}
use Rattle.cert_text.specs.Place.{Heading, CertificateReads}
use Rattle.cert_check.specs.declared.refused.Refused.{Refused}
use Rattle.cert_check.specs.Refusal.{FailsFirst, FailsFirstOrExtra}
use Rattle.answer_lines.specs.Lines.{form_line}
use Rattle.verify_answers.specs.Lines.{cert_code, refused_line, accepted_line}

-- the test of the version: that with cover lines where there are some
abbrev pub Passes : Protocol → List Cube → Option (List CoverLine) → Type 0
Passes p cubes None = PassesTest p cubes
Passes p cubes (Some lines) = PassesLines p cubes lines

-- the first obligation of the version that fails, or the first line of none
abbrev pub Fails : Protocol → List Cube → Option (List CoverLine) → Refused → Type 0
Fails p cubes None refused = FailsFirst p cubes refused
Fails p cubes (Some lines) refused = FailsFirstOrExtra p cubes lines refused

-- status 0: the test is passed, so the cubes are inductive, and no run ends unsafe
pub record Accepts (p : Protocol) (cubes : List Cube) (lines : Option (List CoverLine)) (status : ℕ) (text : List ℕ) : Type 0 where
  pub passes : Passes p cubes lines
  pub inductive : IsInductive p cubes
  pub safe : IsSafe p
  pub status_is : status ≡ 0
  pub line : text ≡ accepted_line cubes

-- status 9: the test fails, and this is the first reason
pub record Refuses (p : Protocol) (cubes : List Cube) (lines : Option (List CoverLine)) (status : ℕ) (text : List ℕ) : Type 0 where
  pub refused : Refused
  pub fails : Fails p cubes lines refused
  pub known : refused ≢ Refused.Memory
  pub status_is : status ≡ 9
  pub line : text ≡ refused_line refused

-- status 9: the bytes are the text of no certificate, and this is the first faulty line, with the kind of its fault
pub record IsUnread (p : Protocol) (bytes : List ℕ) (status : ℕ) (text : List ℕ) : Type 0 where
  pub at : ℕ
  pub kind : ℕ
  pub first : CertificateReads p Heading 1 bytes (Err (at, kind))
  pub status_is : status ≡ 9
  pub line : text ≡ form_line (cert_code kind) at

-- the bytes are the text of a certificate, which is accepted or refused
pub record IsTested (p : Protocol) (bytes : List ℕ) (status : ℕ) (text : List ℕ) : Type 0 where
  pub certificate : Certificate
  pub read : CertificateReads p Heading 1 bytes (Ok certificate)
  pub its_text : bytes ≡ certificate_text p certificate.cubes certificate.lines
  pub answer : Accepts p certificate.cubes certificate.lines status text ⊎ Refuses p certificate.cubes certificate.lines status text

-- the answer of `verify` to a protocol and the bytes of a certificate
abbrev pub AnswersCertificate : Protocol → List ℕ → ℕ → List ℕ → Type 0
AnswersCertificate p bytes status text = IsUnread p bytes status text ⊎ IsTested p bytes status text
