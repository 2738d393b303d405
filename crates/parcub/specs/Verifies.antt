-- What `verify` answers to a protocol and the name of a certificate.
use Rattle.std.specs.Prelude.{◌≡◌, ◌⊎◌, ℕ, List}
use Rattle.io_edge.specs.Shelf.{IsOver}
use Rattle.cub_proto.specs.declared.protocol.Protocol.{Protocol}
use Rattle.answer_lines.specs.Lines.{form_line}
use Rattle.verify_answers.specs.Lines.{cert_code}
use Rattle.verify_answers.specs.Verified.{AnswersCertificate}
use Rattle.parcub.specs.Files.{Told, Answers, Gave, result_limit}

-- status 9: the text is above the limit
abbrev pub IsLongCertificate : Told → ℕ → List ℕ → Answers
IsLongCertificate told taken name status text =
    IsOver (told name) taken result_limit × (status ≡ 9) × (text ≡ form_line (cert_code 0) 1)

-- the answer to the bytes that the shelf gave
pub record IsVerified (told : Told) (name : List ℕ) (p : Protocol) (status : ℕ) (text : List ℕ) : Type 0 where
  pub bytes : List ℕ
  pub gave : Gave told name result_limit bytes
  pub answer : AnswersCertificate p bytes status text

-- the answer of `verify` to a protocol and the name of a certificate
abbrev pub AnswersNamed : Told → ℕ → List ℕ → Protocol → Answers
AnswersNamed told taken name p status text = IsLongCertificate told taken name status text ⊎ IsVerified told name p status text
