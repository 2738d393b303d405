-- `verify` accepts the certificate that `check` prints.
use Rattle.std.proofs.Common.{◌≡◌, ◌==◌, ℕ, ◌≤◌, List, length, Option, Some, None, is_some, Ok, refl, sym, subst, arith, inl, inr}
use Rattle.std.proofs.lemmas.Bool.{eq-eqb, ne_eqb}
use Rattle.cub_proto.specs.declared.budget.Budget.{Budget}
use Rattle.cub_proto.specs.declared.cover.CoverLine.{CoverLine}
use Rattle.cub_proto.specs.declared.event.Plain.{Plain}
use Rattle.cub_proto.specs.declared.protocol.Protocol.{Protocol}
use Rattle.cub_cube.specs.declared.cube.Cube.{Cube}
use Rattle.cub_cube.proofs.InductiveLemmas.{inductive_safe}
use Rattle.log_form.specs.Log.{LogValue, live_cubes}
use Rattle.log_form.specs.Legal.{IsLegalLog}
use Rattle.predecessors.specs.Predecessors.{ArePieceCubes}
use Rattle.cert_text.specs.declared.certificate.Certificate.{Certificate}
use Rattle.cert_text.specs.Text.{certificate_text}
use Rattle.cert_text.specs.Lawful.{IsLawfulCertificate}
use Rattle.cert_text.specs.Place.{Heading, CertificateReads, certificate_of}
use Rattle.cert_text.proofs.Again.{reads_back}
use Rattle.cover_lines.proofs.LogLemmas.{lawful_certificate, live_count, safe_expandable, safe_lawful}
use Rattle.check_answers.specs.Certified.{ProveSafety, IsLinedText, IsCertificateText, IsSafe}
use Rattle.check_answers.specs.Checked.{AnswersCheck, TellsLog, unsafe_status}
use Rattle.verify_answers.specs.Lines.{accepted_line}
use Rattle.verify_answers.specs.Verified.{Passes, Accepts, AnswersCertificate}
use Rattle.verify_answers.proofs.OneVerdict.{one_answer}
use Rattle.answer_laws.specs.Verifies.{text_limit, VerifyAccepts}
use Rattle.answer_laws.proofs.Logs.{search_legal, covers_few, pieces_few}

-- a text of a lawful certificate that passes its test is accepted, and has no other answer
accepted : (p : Protocol) (budget : Budget) (format : ℕ) (cubes : List Cube) (lines : Option (List CoverLine)) (bytes : List ℕ) → is_some lines ≡ (format == 2) → ProveSafety p budget cubes
    → IsLawfulCertificate p cubes lines → Passes p cubes lines → bytes ≡ certificate_text p cubes lines → VerifyAccepts p budget format bytes
accepted p budget format cubes lines bytes version prove lawful passes is =
    let certificate : Certificate = certificate_of cubes lines in
    let read : CertificateReads p Heading 1 bytes (Ok certificate) = subst (λ text. CertificateReads p Heading 1 text (Ok certificate)) (sym is) (reads_back p certificate lawful 1) in
    let accepts : Accepts p cubes lines 0 (accepted_line cubes) =
    record { passes = passes; inductive = prove.inductive; safe = inductive_safe p cubes prove.inductive; status_is = refl; line = refl } in
    let answer : AnswersCertificate p bytes 0 (accepted_line cubes) = inr (record { certificate = certificate; read = read; its_text = is; answer = inl accepts }) in
    record {
      cubes = cubes;
      lines = lines;
      version = version;
      prove = prove;
      read = read;
      accepted = answer;
      alone = λ status line other. one_answer p bytes status 0 line (accepted_line cubes) other answer;
    }

-- the certificate of a log with the verdict SAFE
lined_accepted : (log : LogValue) (format : ℕ) (bytes : List ℕ) → length bytes ≤ text_limit → IsLegalLog ArePieceCubes log → IsSafe format log 0 bytes → format ≡ 2 → IsLinedText log.protocol (live_cubes log.nodes) bytes
    → VerifyAccepts log.protocol log.budget format bytes
lined_accepted log format bytes short legal safe two lined =
    let cubes : List Cube = live_cubes log.nodes in
    let below : length lined.lines ≤ length bytes = subst (λ (text : List ℕ). length lined.lines ≤ length text) (sym lined.text_is) (covers_few log.protocol cubes lined.lines) in
    let few : length lined.lines ≤ 268435456 = omega arith in
    accepted log.protocol log.budget format cubes (Some lined.lines) bytes (sym (eq-eqb format 2 two)) safe.prove
    (lawful_certificate log.protocol cubes lined.lines (live_count ArePieceCubes log legal) (safe_expandable log legal safe.verdict) lined.are (pieces_few log.protocol cubes lined.lines lined.are few))
    lined.pass lined.text_is

safe_accepted : (log : LogValue) (format : ℕ) (bytes : List ℕ) → length bytes ≤ text_limit → IsLegalLog ArePieceCubes log → IsSafe format log 0 bytes → VerifyAccepts log.protocol log.budget format bytes
safe_accepted log format bytes short legal safe = by safe.text_is
  where
    by : IsCertificateText log.protocol (live_cubes log.nodes) format bytes → VerifyAccepts log.protocol log.budget format bytes
    by (inl told) = lined_accepted log format bytes short legal safe told.0 told.1
    by (inr told) =
        accepted log.protocol log.budget format (live_cubes log.nodes) None bytes (sym (ne_eqb format 2 told.0)) safe.prove (safe_lawful log legal safe.verdict) safe.prove.passes told.1

no_zero : (plain : Option Plain) → 0 ≡ unsafe_status plain → ⊥
no_zero None h = omega (arith, h)
no_zero (Some plain) h = omega (arith, h)

-- status 0 tells a certificate
safe_told : (format : ℕ) (log : LogValue) (text : List ℕ) → TellsLog format log 0 text → IsSafe format log 0 text
safe_told format log text (inl safe) = safe
safe_told format log text (inr (inl bad)) = absurd (no_zero bad.trace.plain bad.status_is)
safe_told format log text (inr (inr open_log)) = absurd (let is = open_log.status_is in omega (arith, is))

pub verify_accepts : (p : Protocol) (budget : Budget) (format : ℕ) (text : List ℕ) → length text ≤ text_limit → AnswersCheck budget format p 0 text → VerifyAccepts p budget format text
verify_accepts p budget format text short answer =
    let log : LogValue = answer.log in
    let found = safe_accepted log format text short (search_legal p budget log answer.search) (safe_told format log text answer.tells) in
    subst (λ q. VerifyAccepts q budget format text) answer.protocol (subst (λ b. VerifyAccepts log.protocol b format text) answer.budget_is found)
