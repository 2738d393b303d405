-- Bytes have one answer.
use Rattle.std.proofs.Common.{◌≡◌, ℕ, List, Option, Some, None, Result, Ok, Err, ap, sym, subst, ◌∙◌, inl, inr, ◌⊎◌}
use Rattle.std.specs.Prelude.{◌≢◌}
use Rattle.cub_proto.specs.declared.protocol.Protocol.{Protocol}
use Rattle.cub_proto.specs.declared.cover.CoverLine.{CoverLine}
use Rattle.cub_cube.specs.declared.cube.Cube.{Cube}
use Rattle.text_lines.proofs.ReadingLaws.{one_reading}
use Rattle.cert_text.specs.declared.certificate.Certificate.{Certificate}
use Rattle.cert_text.specs.Place.{Heading, CertificateReads, takes, certificate_at, kind_at}
use Rattle.cert_text.proofs.Takes.{one}
use Rattle.cert_check.specs.declared.refused.Refused.{Refused}
use Rattle.cert_check.proofs.Refusing.{no_test, no_lines, one_refusal, one_lined_refusal}
use Rattle.answer_lines.specs.Lines.{form_line}
use Rattle.verify_answers.specs.Lines.{cert_code, refused_line}
use Rattle.verify_answers.specs.Verified.{Passes, Fails, Accepts, Refuses, AnswersCertificate}

abbrev Same : ℕ → ℕ → List ℕ → List ℕ → Type 0
Same status other text another = (status ≡ other) × (text ≡ another)

ok_same : {A B : Type 0} (x y : A) → ◌≡◌ {A = Result A B} (Ok x) (Ok y) → x ≡ y
ok_same x y h = cc

err_same : {A B : Type 0} (x y : B) → ◌≡◌ {A = Result A B} (Err x) (Err y) → x ≡ y
err_same x y h = cc

apart : {A B : Type 0} (x : A) (y : B) → ◌≡◌ {A = Result A B} (Ok x) (Err y) → ⊥
apart x y h = cc

module _ (p : Protocol) where
  not_both : (cubes : List Cube) (lines : Option (List CoverLine)) (r : Refused) → r ≢ Refused.Memory → Fails p cubes lines r → Passes p cubes lines → ⊥
  not_both cubes None r known fails passes = no_test p cubes r known fails passes
  not_both cubes (Some lines) r known fails passes = no_lines p cubes lines r known fails passes

  one_fails : (cubes : List Cube) (lines : Option (List CoverLine)) (r q : Refused) → r ≢ Refused.Memory → q ≢ Refused.Memory → Fails p cubes lines r → Fails p cubes lines q → r ≡ q
  one_fails cubes None r q known other a b = one_refusal p cubes r q known other a b
  one_fails cubes (Some lines) r q known other a b = one_lined_refusal p cubes lines r q known other a b

  one_tested : (cubes : List Cube) (lines : Option (List CoverLine)) (status more : ℕ) (text another : List ℕ)
      → Accepts p cubes lines status text ⊎ Refuses p cubes lines status text → Accepts p cubes lines more another ⊎ Refuses p cubes lines more another → Same status more text another
  one_tested cubes lines status more text another (inl a) (inl b) = (a.status_is ∙ sym b.status_is, a.line ∙ sym b.line)
  one_tested cubes lines status more text another (inl a) (inr b) = absurd (not_both cubes lines b.refused b.known b.fails a.passes)
  one_tested cubes lines status more text another (inr a) (inl b) = absurd (not_both cubes lines a.refused a.known a.fails b.passes)
  one_tested cubes lines status more text another (inr a) (inr b) =
      let same = one_fails cubes lines a.refused b.refused a.known b.known a.fails b.fails in
      (a.status_is ∙ sym b.status_is, a.line ∙ ap refused_line same ∙ sym b.line)

  once_read : (bytes : List ℕ) (o u : Result Certificate (ℕ × ℕ)) → CertificateReads p Heading 1 bytes o → CertificateReads p Heading 1 bytes u → o ≡ u
  once_read bytes o u r s = one_reading (takes p) certificate_at (kind_at p) (one p) r s

  pub one_answer : (bytes : List ℕ) (status more : ℕ) (text another : List ℕ) → AnswersCertificate p bytes status text → AnswersCertificate p bytes more another → Same status more text another
  one_answer bytes status more text another (inl a) (inl b) =
      let same : (a.at, a.kind) ≡ (b.at, b.kind) = err_same (a.at, a.kind) (b.at, b.kind) (once_read bytes _ _ a.first b.first) in
      (a.status_is ∙ sym b.status_is, a.line ∙ ap (λ (x : ℕ × ℕ). form_line (cert_code x.1) x.0) same ∙ sym b.line)
  one_answer bytes status more text another (inl a) (inr b) = absurd (apart b.certificate (a.at, a.kind) (once_read bytes _ _ b.read a.first))
  one_answer bytes status more text another (inr a) (inl b) = absurd (apart a.certificate (b.at, b.kind) (once_read bytes _ _ a.read b.first))
  one_answer bytes status more text another (inr a) (inr b) =
      let same = ok_same a.certificate b.certificate (once_read bytes _ _ a.read b.read) in
      one_tested b.certificate.cubes b.certificate.lines status more text another
      (subst (λ c. Accepts p c.cubes c.lines status text ⊎ Refuses p c.cubes c.lines status text) same a.answer) b.answer
