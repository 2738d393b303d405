-- Words have one answer where the bytes of their files are told.
use Rattle.std.proofs.Common.{◌≡◌, ℕ, ◌<◌, true, false, List, [], ◌∷◌, length, Option, Some, None, Result, Ok, Err, is_some, refl, ap, sym, subst, ◌∙◌, arith, inl, inr, ◌⊎◌, IsTrue}
use Rattle.std.specs.Prelude.{IfSome}
use Rattle.std.proofs.lemmas.List.Elements.{All-head, All-tail}
use Rattle.io_edge.specs.Shelf.{IsOver}
use Rattle.cub_lexer.specs.Place.{line_at, column_at}
use Rattle.cub_proto.specs.declared.protocol.Protocol.{Protocol}
use Rattle.cub_proto.specs.declared.event.Trace.{Trace}
use Rattle.cub_words.specs.declared.request.WordsFault.{WordsFault}
use Rattle.cub_words.specs.Reading.{Request, reading}
use Rattle.cub_words.specs.Reading.Request.{Check, Verify, Replay, Print, Sample}
use Rattle.trace_text.specs.Place.{Heading, TraceReads}
use Rattle.trace_text.specs.Place.{takes, trace_at, kind_at}
use Rattle.trace_text.proofs.Takes.{one}
use Rattle.text_lines.proofs.ReadingLaws.{one_reading}
use Rattle.trace_judge.proofs.OneJudgement.{one_reason, no_reason}
use Rattle.answer_lines.specs.Codes.{text_code, trace_code}
use Rattle.answer_lines.specs.Lines.{place_line, form_line, refusal_line}
use Rattle.parcub.specs.Files.{Told, Answers, Gave, IsTextFault, IsRead, AnswersFile, protocol_limit, result_limit}
use Rattle.answer_laws.specs.Replays.{IsUnread, IsJudged, Accepts, Refuses}
use Rattle.parcub.specs.Replays.{AnswersTrace}
use Rattle.parcub.specs.Verifies.{AnswersNamed}
use Rattle.verify_answers.specs.Verified.{AnswersCertificate}
use Rattle.verify_answers.proofs.OneVerdict.{one_answer as one_certificate}
use Rattle.parcub.specs.Answer.{AnswersPrint, AnswersReading, files_read}
use Rattle.parcub.specs.Checks.{AnswersCheckBy, AnswersSampleBy}
use Rattle.parcub.specs.Laws.{AreTold, OneAnswer}
use Rattle.parcub.proofs.OneProtocol.{same_parts, one_text_protocol, one_text_fault, no_text_fault}
use Rattle.check_answers.specs.Sampled.{TellsLine}
use Rattle.check_answers.proofs.OneTold.{budget_same, one_line}
use Rattle.answer_laws.proofs.OneAnswer.{one_answer as one_checked}
use Rattle.crew.specs.Search.{IsSearch}
use Rattle.crew.proofs.OneLog.{one_log}

abbrev Same : ℕ → ℕ → List ℕ → List ℕ → Type 0
Same status other text another = (status ≡ other) × (text ≡ another)

module _ (told : Told) (name bytes : List ℕ) (is : told name ≡ Some bytes) (limit : ℕ) where
  gave_told : (given : List ℕ) → Gave told name limit given → given ≡ bytes
  gave_told given gave = subst (λ known. IfSome known (λ these. given ≡ these)) is gave.1

  not_over : (taken : ℕ) (given : List ℕ) → IsOver (told name) taken limit → Gave told name limit given → ⊥
  not_over taken given over gave =
      let far : limit < length bytes = subst (λ known. IsOver known taken limit) is over in
      let size : length given ≡ length bytes = ap length (gave_told given gave) in
      let within = gave.0 in
      omega arith

-- a file's bytes: one fault, or one protocol to which the command has one answer
module _ (next other : Protocol → Answers) (once : (p : Protocol) (status more : ℕ) (text another : List ℕ) → next p status text → other p more another → Same status more text another) where
  one_bytes : (bytes : List ℕ) (status more : ℕ) (text another : List ℕ) → IsTextFault bytes status text ⊎ IsRead bytes next status text
      → IsTextFault bytes more another ⊎ IsRead bytes other more another → Same status more text another
  one_bytes bytes status more text another (inl a) (inl b) =
      let same = one_text_fault bytes a.code b.code a.at b.at a.fault b.fault in (
        a.status_is ∙ sym b.status_is,
        a.line ∙ ap (λ code. place_line (text_code code) (line_at bytes a.at) (column_at bytes a.at)) same.0
            ∙ ap (λ at. place_line (text_code b.code) (line_at bytes at) (column_at bytes at)) same.1 ∙ sym b.line,
      )
  one_bytes bytes status more text another (inl a) (inr b) = absurd (no_text_fault bytes b.protocol a.code a.at b.read a.fault)
  one_bytes bytes status more text another (inr a) (inl b) = absurd (no_text_fault bytes a.protocol b.code b.at a.read b.fault)
  one_bytes bytes status more text another (inr a) (inr b) =
      let same = one_text_protocol bytes a.protocol b.protocol a.read b.read in
      once b.protocol status more text another (subst (λ p. next p status text) same a.answer) b.answer

  one_file : (told : Told) (name bytes : List ℕ) → told name ≡ Some bytes → (taken later status more : ℕ) (text another : List ℕ)
      → AnswersFile told taken name next status text → AnswersFile told later name other more another → Same status more text another
  one_file told name bytes is taken later status more text another (inl a) (inl b) = (a.1 ∙ sym b.1, a.2 ∙ sym b.2)
  one_file told name bytes is taken later status more text another (inl a) (inr b) = absurd (not_over told name bytes is protocol_limit taken b.bytes a.0 b.gave)
  one_file told name bytes is taken later status more text another (inr a) (inl b) = absurd (not_over told name bytes is protocol_limit later a.bytes b.0 a.gave)
  one_file told name bytes is taken later status more text another (inr a) (inr b) =
      one_bytes bytes status more text another
      (subst (λ given. IsTextFault given status text ⊎ IsRead given next status text) (gave_told told name bytes is protocol_limit a.bytes a.gave) a.answer)
      (subst (λ given. IsTextFault given more another ⊎ IsRead given other more another) (gave_told told name bytes is protocol_limit b.bytes b.gave) b.answer)

ok_same : {A B : Type 0} (x y : A) → ◌≡◌ {A = Result A B} (Ok x) (Ok y) → x ≡ y
ok_same x y h = cc

err_same : {A B : Type 0} (x y : B) → ◌≡◌ {A = Result A B} (Err x) (Err y) → x ≡ y
err_same x y h = cc

apart : {A B : Type 0} (x : A) (y : B) → ◌≡◌ {A = Result A B} (Ok x) (Err y) → ⊥
apart x y h = cc

module _ (p : Protocol) where
  once_read : (bytes : List ℕ) (o u : Result Trace (ℕ × ℕ)) → TraceReads p Heading 1 bytes o → TraceReads p Heading 1 bytes u → o ≡ u
  once_read bytes o u r s = one_reading (takes p) trace_at kind_at (one p) r s

  one_judged : (t : Trace) (status more : ℕ) (text another : List ℕ) → Accepts p t status text ⊎ Refuses p t status text
      → Accepts p t more another ⊎ Refuses p t more another → Same status more text another
  one_judged t status more text another (inl a) (inl b) = (a.status_is ∙ sym b.status_is, a.line_is ∙ sym b.line_is)
  one_judged t status more text another (inl a) (inr b) = absurd (no_reason p t.start t.events t.goal t.places t.plain b.refusal b.known a.accepted b.refused)
  one_judged t status more text another (inr a) (inl b) = absurd (no_reason p t.start t.events t.goal t.places t.plain a.refusal a.known b.accepted a.refused)
  one_judged t status more text another (inr a) (inr b) =
      let same = one_reason p t.start t.events t.goal t.places t.plain a.refusal b.refusal a.known b.known a.refused b.refused in
      (a.status_is ∙ sym b.status_is, a.line_is ∙ ap (refusal_line p) same ∙ sym b.line_is)

  one_replayed : (bytes : List ℕ) (status more : ℕ) (text another : List ℕ) → IsUnread p bytes status text ⊎ IsJudged p bytes status text
      → IsUnread p bytes more another ⊎ IsJudged p bytes more another → Same status more text another
  one_replayed bytes status more text another (inl a) (inl b) =
      let same : (a.at, a.kind) ≡ (b.at, b.kind) = err_same (a.at, a.kind) (b.at, b.kind) (once_read bytes _ _ a.first b.first) in
      (a.status_is ∙ sym b.status_is, a.line_is ∙ ap (λ (x : ℕ × ℕ). form_line (trace_code x.1) x.0) same ∙ sym b.line_is)
  one_replayed bytes status more text another (inl a) (inr b) = absurd (apart b.trace (a.at, a.kind) (once_read bytes _ _ b.read a.first))
  one_replayed bytes status more text another (inr a) (inl b) = absurd (apart a.trace (b.at, b.kind) (once_read bytes _ _ a.read b.first))
  one_replayed bytes status more text another (inr a) (inr b) =
      let same = ok_same a.trace b.trace (once_read bytes _ _ a.read b.read) in
      one_judged b.trace status more text another (subst (λ t. Accepts p t status text ⊎ Refuses p t status text) same a.answer) b.answer

  one_trace : (told : Told) (name bytes : List ℕ) → told name ≡ Some bytes → (taken later status more : ℕ) (text another : List ℕ)
      → AnswersTrace told taken name p status text → AnswersTrace told later name p more another → Same status more text another
  one_trace told name bytes is taken later status more text another (inl a) (inl b) = (a.1 ∙ sym b.1, a.2 ∙ sym b.2)
  one_trace told name bytes is taken later status more text another (inl a) (inr b) = absurd (not_over told name bytes is result_limit taken b.bytes a.0 b.gave)
  one_trace told name bytes is taken later status more text another (inr a) (inl b) = absurd (not_over told name bytes is result_limit later a.bytes b.0 a.gave)
  one_trace told name bytes is taken later status more text another (inr a) (inr b) =
      one_replayed bytes status more text another
      (subst (λ given. IsUnread p given status text ⊎ IsJudged p given status text) (gave_told told name bytes is result_limit a.bytes a.gave) a.answer)
      (subst (λ given. IsUnread p given more another ⊎ IsJudged p given more another) (gave_told told name bytes is result_limit b.bytes b.gave) b.answer)

  one_named : (told : Told) (name bytes : List ℕ) → told name ≡ Some bytes → (taken later status more : ℕ) (text another : List ℕ)
      → AnswersNamed told taken name p status text → AnswersNamed told later name p more another → Same status more text another
  one_named told name bytes is taken later status more text another (inl a) (inl b) = (a.1 ∙ sym b.1, a.2 ∙ sym b.2)
  one_named told name bytes is taken later status more text another (inl a) (inr b) = absurd (not_over told name bytes is result_limit taken b.bytes a.0 b.gave)
  one_named told name bytes is taken later status more text another (inr a) (inl b) = absurd (not_over told name bytes is result_limit later a.bytes b.0 a.gave)
  one_named told name bytes is taken later status more text another (inr a) (inr b) =
      one_certificate p bytes status more text another
      (subst (λ given. AnswersCertificate p given status text) (gave_told told name bytes is result_limit a.bytes a.gave) a.answer)
      (subst (λ given. AnswersCertificate p given more another) (gave_told told name bytes is result_limit b.bytes b.gave) b.answer)

one_print : (p : Protocol) (status more : ℕ) (text another : List ℕ) → AnswersPrint p status text → AnswersPrint p more another → Same status more text another
one_print p status more text another a b = (a.0 ∙ sym b.0, a.1 ∙ sym b.1)

-- ---- searches
module _ (cubes width format : ℕ) where
  one_check : (p : Protocol) (status more : ℕ) (text another : List ℕ) → AnswersCheckBy cubes width format p status text → AnswersCheckBy cubes width format p more another → Same status more text another
  one_check p status more text another (a, numbers, first) (b, others, second) =
      one_checked p a b format status more text another (numbers.0 ∙ sym others.0) (numbers.1 ∙ sym others.1) first second

one_sample : (levels cubes width status more : ℕ) (text another : List ℕ) → AnswersSampleBy levels cubes width status text → AnswersSampleBy levels cubes width more another → Same status more text another
one_sample levels cubes width status more text another (a, numbers, first) (b, others, second) =
    let x = first.is_sample in
    let y = second.is_sample in
    let protocols : first.protocol ≡ second.protocol =
    same_parts first.protocol second.protocol (x.sorts ∙ sym y.sorts) (x.globals ∙ sym y.globals) (x.arrays ∙ sym y.arrays) (x.start ∙ sym y.start) (x.goals ∙ sym y.goals) (x.transitions ∙ sym y.transitions) in
    let budgets : a ≡ b = budget_same a b (numbers.0 ∙ sym others.0) (numbers.1 ∙ sym others.1) in
    let logs : first.log ≡ second.log =
    one_log second.protocol b first.log second.log (subst (λ p. IsSearch p b first.log) protocols (subst (λ budget. IsSearch first.protocol budget first.log) budgets first.search)) second.search in
    one_line levels second.log status more text another (subst (λ log. TellsLine levels log status text) logs first.tells) second.tells

told_some : {A : Type 0} (o : Option A) → is_some o ≡ true → (x : A) × (o ≡ Some x)
told_some None h = absurd (let no : false ≡ true = h in cc)
told_some (Some x) h = (x, refl)

one_request : (told : Told) (taken later status more : ℕ) (text another : List ℕ) (r : Result Request WordsFault) → AreTold told (files_read r)
    → AnswersReading told taken r status text → AnswersReading told later r more another → Same status more text another
one_request told taken later status more text another (Ok (Print file)) are a b =
    let known = told_some (told file) (All-head (λ name. IsTrue (is_some (told name))) file [] are) in
    one_file AnswersPrint AnswersPrint one_print told file known.0 known.1 taken later status more text another a b
one_request told taken later status more text another (Ok (Replay file trace)) are a b =
    let test : List ℕ → Type 0 = λ name. IsTrue (is_some (told name)) in
    let known = told_some (told file) (All-head test file (trace ∷ []) are) in
    let second = told_some (told trace) (All-head test trace [] (All-tail test file (trace ∷ []) are)) in
    one_file (AnswersTrace told taken trace) (AnswersTrace told later trace)
    (λ p s m t u x y. one_trace p told trace second.0 second.1 taken later s m t u x y) told file known.0 known.1 taken later status more text another a b
one_request told taken later status more text another (Ok (Check file cubes width workers format)) are a b =
    let known = told_some (told file) (All-head (λ name. IsTrue (is_some (told name))) file [] are) in
    one_file (AnswersCheckBy cubes width format) (AnswersCheckBy cubes width format) (one_check cubes width format) told file known.0 known.1 taken later status more text another a b
one_request told taken later status more text another (Ok (Verify file cert)) are a b =
    let test : List ℕ → Type 0 = λ name. IsTrue (is_some (told name)) in
    let known = told_some (told file) (All-head test file (cert ∷ []) are) in
    let second = told_some (told cert) (All-head test cert [] (All-tail test file (cert ∷ []) are)) in
    one_file (AnswersNamed told taken cert) (AnswersNamed told later cert)
    (λ p s m t u x y. one_named p told cert second.0 second.1 taken later s m t u x y) told file known.0 known.1 taken later status more text another a b
one_request told taken later status more text another (Ok (Sample levels cubes width workers)) are a b = one_sample levels cubes width status more text another a b
one_request told taken later status more text another (Err fault) are a b = (a.0 ∙ sym b.0, a.1 ∙ sym b.1)

pub one_answer : OneAnswer
one_answer told words are taken later status more text another a b = one_request told taken later status more text another (reading words) are a b
