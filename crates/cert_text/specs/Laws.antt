-- What holds of all texts of certificates.
use Rattle.std.specs.Prelude.{◌≡◌, ℕ, ◌<◌, List, length, take, Result, Ok}
use Rattle.cub_proto.specs.declared.protocol.Protocol.{Protocol}
use Rattle.cert_text.specs.declared.certificate.Certificate.{Certificate}
use Rattle.cert_text.specs.Text.{certificate_text}
use Rattle.cert_text.specs.Lawful.{IsLawfulCertificate}
use Rattle.cert_text.specs.Place.{Heading, CertificateReads}

-- a text has one reading: one certificate, or one fault
abbrev pub OneReading : Protocol → Type 0
OneReading p = (text : List ℕ) (o u : Result Certificate (ℕ × ℕ)) → CertificateReads p Heading 1 text o → CertificateReads p Heading 1 text u → o ≡ u

-- a text that reads as a certificate is the text of that certificate
abbrev pub ReadsItsText : Protocol → Type 0
ReadsItsText p = (text : List ℕ) (c : Certificate) → CertificateReads p Heading 1 text (Ok c) → text ≡ certificate_text p c.cubes c.lines

-- what was written is read back
abbrev pub ReadsBack : Protocol → Type 0
ReadsBack p = (c : Certificate) → IsLawfulCertificate p c.cubes c.lines → CertificateReads p Heading 1 (certificate_text p c.cubes c.lines) (Ok c)

-- no front of an accepted text is accepted
abbrev pub HasNoAcceptedFront : Protocol → Type 0
HasNoAcceptedFront p = (text : List ℕ) (c d : Certificate) (n : ℕ) → CertificateReads p Heading 1 text (Ok c) → n < length text → CertificateReads p Heading 1 (take n text) (Ok d) → ⊥
