-- One search is told in one way, but for which run to an unsafe state.
use mathlib.Core.HLevel.{is_prop→PathP}
use Rattle.std.proofs.Math.Bridge.{le_prop}
use Rattle.std.proofs.Common.{◌≡◌, ◌≢◌, ◌⊎◌, ℕ, ◌≤◌, List, length, Option, Some, None, sym, ap, ◌∙◌, subst, arith, inl, inr}
use Rattle.cub_proto.specs.declared.budget.Budget.{Budget}
use Rattle.cub_proto.specs.declared.event.Plain.{Plain}
use Rattle.cub_proto.specs.declared.protocol.Protocol.{Protocol}
use Rattle.cub_cube.specs.declared.cube.Cube.{Cube}
use Rattle.log_form.specs.declared.event.Mark.{Mark}
use Rattle.log_form.specs.declared.verdicts.LogVerdict.{LogVerdict}
use Rattle.log_form.specs.declared.verdicts.LogVerdict.TheVariants.{Unsafe, UnknownCubes, UnknownWidth, Safe}
use Rattle.log_form.specs.Log.{LogValue, live_cubes}
use Rattle.log_form.specs.Verdict.{verdict_of, verdict_by}
use Rattle.cert_text.specs.Text.{certificate_text}
use Rattle.cover_lines.proofs.OneLemmas.{lines_one}
use Rattle.crew.specs.Search.{IsSearch}
use Rattle.crew.proofs.OneLog.{one_log}
use Rattle.journal_text.specs.Lawful.{IsUnknown}
use Rattle.check_answers.specs.Certified.{IsCertificateText}
use Rattle.check_answers.specs.Checked.{AnswersCheck, TellsLog, TellsNoRun, unsafe_status}
use Rattle.check_answers.specs.Sampled.{TellsLine, TellsVerdict, sample_line}

abbrev Same : ℕ → ℕ → List ℕ → List ℕ → Type 0
Same status other text another = (status ≡ other) × (text ≡ another)

-- budgets with the same numbers are the same: what a budget keeps beside them are facts, and each holds in one way
pub budget_same : (a b : Budget) → a.cubes ≡ b.cubes → a.width ≡ b.width → a ≡ b
budget_same a b cubes width = λ i. record {
  cubes = cubes i;
  width = width i;
  some_cubes = is_prop→PathP (λ j. 1 ≤ cubes j) (λ j. le_prop) a.some_cubes b.some_cubes i;
  few_cubes = is_prop→PathP (λ j. cubes j ≤ 65536) (λ j. le_prop) a.few_cubes b.few_cubes i;
  some_width = is_prop→PathP (λ j. 1 ≤ width j) (λ j. le_prop) a.some_width b.some_width i;
  narrow = is_prop→PathP (λ j. width j ≤ 8) (λ j. le_prop) a.narrow b.narrow i;
}

-- ---- one verdict
verdicts : (log : LogValue) (v w : LogVerdict) → verdict_of log ≡ Some v → verdict_of log ≡ Some w → v ≡ w
verdicts log v w first second = cc

bad_verdict : (log : LogValue) (node : ℕ) → log.mark ≡ Mark.Bad node → verdict_of log ≡ Some Unsafe
bad_verdict log node bad = ap (λ mark. verdict_by mark log.budget log.nodes) bad

safe_not_unsafe : Safe ≡ Unsafe → ⊥
safe_not_unsafe h = cc

safe_not_open : (log : LogValue) → verdict_of log ≡ Some Safe → IsUnknown log → ⊥
safe_not_open log safe (inl cubes) = cc
safe_not_open log safe (inr width) = cc

bad_not_open : (log : LogValue) (node : ℕ) → log.mark ≡ Mark.Bad node → IsUnknown log → ⊥
bad_not_open log node bad (inl cubes) = let is = bad_verdict log node bad in cc
bad_not_open log node bad (inr width) = let is = bad_verdict log node bad in cc

runs : (status : ℕ) (plain : Option Plain) → TellsNoRun status → status ≡ unsafe_status plain → ⊥
runs status None quiet is = quiet.0 is
runs status (Some plain) quiet is = quiet.1 is

-- ---- texts
same_certificate : (p : Protocol) (cubes : List Cube) (format : ℕ) (text another : List ℕ) → IsCertificateText p cubes format text → IsCertificateText p cubes format another → text ≡ another
same_certificate p cubes format text another (inl a) (inl b) =
    a.1.text_is ∙ ap (λ lines. certificate_text p cubes (Some lines)) (lines_one p cubes a.1.lines b.1.lines a.1.are b.1.are) ∙ sym b.1.text_is
same_certificate p cubes format text another (inl a) (inr b) = absurd (b.0 a.0)
same_certificate p cubes format text another (inr a) (inl b) = absurd (a.0 b.0)
same_certificate p cubes format text another (inr a) (inr b) = a.1 ∙ sym b.1

one_told : (format : ℕ) (log : LogValue) (status other : ℕ) (text another : List ℕ) → TellsNoRun status → TellsLog format log status text → TellsLog format log other another → Same status other text another
one_told format log status other text another quiet (inl a) (inl b) =
    (a.status_is ∙ sym b.status_is, same_certificate log.protocol (live_cubes log.nodes) format text another a.text_is b.text_is)
one_told format log status other text another quiet (inl a) (inr (inl b)) = absurd (safe_not_unsafe (verdicts log Safe Unsafe a.verdict (bad_verdict log b.node b.bad)))
one_told format log status other text another quiet (inl a) (inr (inr b)) = absurd (safe_not_open log a.verdict b.unknown)
one_told format log status other text another quiet (inr (inl a)) b = absurd (runs status a.trace.plain quiet a.status_is)
one_told format log status other text another quiet (inr (inr a)) (inl b) = absurd (safe_not_open log b.verdict a.unknown)
one_told format log status other text another quiet (inr (inr a)) (inr (inl b)) = absurd (bad_not_open log b.node b.bad a.unknown)
one_told format log status other text another quiet (inr (inr a)) (inr (inr b)) = (a.status_is ∙ sym b.status_is, a.text_is ∙ sym b.text_is)

pub one_answer : (p : Protocol) (a b : Budget) (format status other : ℕ) (text another : List ℕ) → a.cubes ≡ b.cubes → a.width ≡ b.width → TellsNoRun status
    → AnswersCheck a format p status text → AnswersCheck b format p other another → Same status other text another
one_answer p a b format status other text another cubes width quiet first second =
    let same : first.log ≡ second.log = one_log p b first.log second.log (subst (λ budget. IsSearch p budget first.log) (budget_same a b cubes width) first.search) second.search in
    one_told format second.log status other text another quiet (subst (λ log. TellsLog format log status text) same first.tells) second.tells

-- ---- the line of a sample
pub one_line : (levels : ℕ) (log : LogValue) (status other : ℕ) (text another : List ℕ) → TellsLine levels log status text → TellsLine levels log other another → Same status other text another
one_line levels log status other text another (v, is, a) (w, is', b) =
    by v a (subst (λ u. TellsVerdict levels (length (live_cubes log.nodes)) u other another) (sym (verdicts log v w is is')) b)
  where
    by : (u : LogVerdict) → TellsVerdict levels (length (live_cubes log.nodes)) u status text → TellsVerdict levels (length (live_cubes log.nodes)) u other another → Same status other text another
    by Safe first second = (first.0 ∙ sym second.0, first.1 ∙ sym second.1)
    by UnknownCubes first second = (first.0 ∙ sym second.0, first.1 ∙ sym second.1)
    by UnknownWidth first second = (first.0 ∙ sym second.0, first.1 ∙ sym second.1)
    by Unsafe first second = absurd first
