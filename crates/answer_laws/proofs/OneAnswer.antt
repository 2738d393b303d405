-- A protocol has one answer.
use Rattle.std.proofs.Common.{◌≡◌, ◌⊎◌, ℕ, List, sym, ap, ◌∙◌, subst, arith, inl, inr}
use Rattle.cub_proto.specs.declared.budget.Budget.{Budget}
use Rattle.cub_proto.specs.declared.event.Trace.{Trace}
use Rattle.cub_proto.specs.declared.protocol.Protocol.{Protocol}
use Rattle.log_form.specs.declared.event.Mark.{Mark}
use Rattle.log_form.specs.Log.{LogValue}
use Rattle.trace_text.specs.Text.{trace_text}
use Rattle.trace_build.specs.Origins.{IsTraceOfNode}
use Rattle.crew.specs.Search.{IsSearch}
use Rattle.crew.proofs.OneLog.{one_log}
use Rattle.check_answers.specs.Checked.{IsUnsafe, AnswersCheck, TellsLog, TellsNoRun, unsafe_status}
use Rattle.check_answers.proofs.OneTold.{budget_same, one_answer as one_quiet}
use Rattle.answer_laws.proofs.OneTrace.{one_trace}

abbrev Same : ℕ → ℕ → List ℕ → List ℕ → Type 0
Same status other text another = (status ≡ other) × (text ≡ another)

-- a log tells one run
bad_same : (a b : ℕ) → Mark.Bad a ≡ Mark.Bad b → a ≡ b
bad_same a b h = cc

run_same : (log : LogValue) (status other : ℕ) (text another : List ℕ) → IsUnsafe log status text → IsUnsafe log other another → Same status other text another
run_same log status other text another a b =
    let node : a.node ≡ b.node = bad_same a.node b.node (sym a.bad ∙ b.bad) in
    let traces : a.trace ≡ b.trace =
    one_trace log.protocol log.nodes b.node a.trace b.trace (subst (λ n. IsTraceOfNode log.protocol log.nodes n a.trace) node a.of_node) b.of_node in (
      a.status_is ∙ ap (λ (t : Trace). unsafe_status t.plain) traces ∙ sym b.status_is,
      a.text_is ∙ ap (trace_text log.protocol) traces ∙ sym b.text_is,
    )

-- what is told is a run, or no run
quiet_or_run : (format : ℕ) (log : LogValue) (status : ℕ) (text : List ℕ) → TellsLog format log status text → TellsNoRun status ⊎ IsUnsafe log status text
quiet_or_run format log status text (inl safe) = let is = safe.status_is in inl ((λ e. omega (arith, is, e)), (λ e. omega (arith, is, e)))
quiet_or_run format log status text (inr (inl bad)) = inr bad
quiet_or_run format log status text (inr (inr open_log)) = let is = open_log.status_is in inl ((λ e. omega (arith, is, e)), (λ e. omega (arith, is, e)))

pub one_answer : (p : Protocol) (a b : Budget) (format status other : ℕ) (text another : List ℕ) → a.cubes ≡ b.cubes → a.width ≡ b.width
    → AnswersCheck a format p status text → AnswersCheck b format p other another → Same status other text another
one_answer p a b format status other text another cubes width first second =
    by (quiet_or_run format first.log status text first.tells) (quiet_or_run format second.log other another second.tells)
  where
    logs : first.log ≡ second.log
    logs = one_log p b first.log second.log (subst (λ budget. IsSearch p budget first.log) (budget_same a b cubes width) first.search) second.search

    by : TellsNoRun status ⊎ IsUnsafe first.log status text → TellsNoRun other ⊎ IsUnsafe second.log other another → Same status other text another
    by (inl quiet) either = one_quiet p a b format status other text another cubes width quiet first second
    by (inr bad) (inl quiet) = let back = one_quiet p b a format other status another text (sym cubes) (sym width) quiet second first in (sym back.0, sym back.1)
    by (inr bad) (inr also) = run_same second.log status other text another (subst (λ log. IsUnsafe log status text) logs bad) also
