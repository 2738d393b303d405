-- What `verify` answers to the certificate that `check` prints.
use Rattle.std.specs.Prelude.{◌≡◌, ◌==◌, ℕ, List, Option, Ok, is_some}
use Rattle.cub_proto.specs.declared.budget.Budget.{Budget}
use Rattle.cub_proto.specs.declared.cover.CoverLine.{CoverLine}
use Rattle.cub_proto.specs.declared.protocol.Protocol.{Protocol}
use Rattle.cub_cube.specs.declared.cube.Cube.{Cube}
use Rattle.cert_text.specs.Place.{Heading, CertificateReads, certificate_of}
use Rattle.check_answers.specs.Certified.{ProveSafety}
use Rattle.verify_answers.specs.Lines.{accepted_line}
use Rattle.verify_answers.specs.Verified.{AnswersCertificate}

-- how many bytes of a certificate are read at most
abbrev pub text_limit : ℕ
text_limit = 268435456

-- The bytes are read as a certificate in the version of the format, whose cubes prove that the protocol is safe. The answer to
-- them is status 0 with the number of its cubes, and no other.
pub record VerifyAccepts (p : Protocol) (budget : Budget) (format : ℕ) (bytes : List ℕ) : Type 0 where
  pub cubes : List Cube
  pub lines : Option (List CoverLine)
  pub version : is_some lines ≡ (format == 2)
  pub prove : ProveSafety p budget cubes
  pub read : CertificateReads p Heading 1 bytes (Ok (certificate_of cubes lines))
  pub accepted : AnswersCertificate p bytes 0 (accepted_line cubes)
  pub alone : (status : ℕ) (line : List ℕ) → AnswersCertificate p bytes status line → (status ≡ 0) × (line ≡ accepted_line cubes)
